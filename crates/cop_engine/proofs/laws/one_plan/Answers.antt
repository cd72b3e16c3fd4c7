use Rattle.cop_engine.proofs.OnePlan.{one_plan}
use Rattle.cop_engine.proofs.laws.one_plan.Goals as goal

pub returns : goal.returns
returns c = λ asked nodes pdos eds a b x y. one_plan c.one_outcome.ensures asked nodes pdos eds a b x y
