use Rattle.cop_room.proofs.Assigned.{some_assigned, none_assigned}
use Rattle.cop_room.proofs.laws.harder_assignments_pass_less.Goals as goal

pub returns-clause-some : goal.returns-clause-some
returns-clause-some c = some_assigned

pub returns-clause-none : goal.returns-clause-none
returns-clause-none c = none_assigned
