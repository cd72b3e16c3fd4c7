use Rattle.cop_room.proofs.Assigned.{fewer_planned}
use Rattle.cop_room.proofs.Assigned.{fewer_assigned}
use Rattle.cop_room.proofs.laws.fewer_plans_pass.Goals as goal

pub returns-clause-kept : goal.returns-clause-kept
returns-clause-kept c = fewer_planned

pub returns-clause-assigned : goal.returns-clause-assigned
returns-clause-assigned c = fewer_assigned
