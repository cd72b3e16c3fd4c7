use Rattle.cop_engine.proofs.OnePlan.{one_check}
use Rattle.cop_engine.proofs.laws.one_check.Goals as goal

pub returns : goal.returns
returns c = one_check
