use Rattle.std.proofs.Common.{rules}
use Rattle.cop_plan.proofs.plans.identifiers.Goals as goal

-- written here so that a body that breaks it is refused at once
pub loop-place-preserved : goal.loop-place-preserved
loop-place-preserved c = search rules
