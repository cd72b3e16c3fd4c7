use Rattle.cop_room.proofs.Assigned.{plan_passes}
use Rattle.cop_room.proofs.laws.harder_plans_pass_less.Goals as goal

pub returns : goal.returns
returns c = plan_passes
