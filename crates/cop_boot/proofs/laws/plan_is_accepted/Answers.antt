use Rattle.cop_boot.proofs.PlanInTurn.{plan_accepted}
use Rattle.cop_boot.proofs.laws.plan_is_accepted.Goals as goal

pub returns : goal.returns
returns c = plan_accepted
