use Rattle.std.proofs.Common.{rules}
use Rattle.cop_nmt.proofs.states.command_in.Goals as goal

-- written here so that a body that breaks it is refused at once
pub returns-in-1 : goal.returns-in-1
returns-in-1 c = search rules

pub returns-in-2 : goal.returns-in-2
returns-in-2 c = search rules

pub returns-in-128 : goal.returns-in-128
returns-in-128 c = search rules

pub returns-in-129 : goal.returns-in-129
returns-in-129 c = search rules

pub returns-in-130 : goal.returns-in-130
returns-in-130 c = search rules
