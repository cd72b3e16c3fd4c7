use Rattle.cop_plan.proofs.MarginSteps.{refused_none}
use Rattle.cop_plan.proofs.margins.placing_of.Goals as goal

pub returns : goal.returns
returns c rate streams pdos few h = refused_none rate streams pdos c.in-Refused.field-0 few (rw c.in-Refused.is at h)
