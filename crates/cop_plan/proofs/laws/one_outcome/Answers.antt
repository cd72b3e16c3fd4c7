use Rattle.cop_plan.proofs.OutcomeOnce.{outcome_once}
use Rattle.cop_plan.proofs.laws.one_outcome.Goals as goal

pub returns : goal.returns
returns c = λ rates streams pdos choice a b s x y k l. outcome_once rates streams pdos s choice a b x y k l
