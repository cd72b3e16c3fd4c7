use Rattle.cop_engine.proofs.OneUse.{one_judgement}
use Rattle.cop_engine.proofs.laws.one_judgement.Goals as goal

pub returns : goal.returns
returns c = λ asked nodes pdos eds trace text other x y. one_judgement c.one_outcome.ensures asked nodes pdos eds trace text other x y
