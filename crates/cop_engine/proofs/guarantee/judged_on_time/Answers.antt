use Rattle.cop_engine.proofs.JudgementLemmas.{says_on_time}
use Rattle.cop_engine.proofs.guarantee.judged_on_time.Goals as goal

pub returns : goal.returns
returns c = λ asked nodes pdos eds trace text j. says_on_time asked nodes pdos eds trace text j.outcome j.network j.judged
