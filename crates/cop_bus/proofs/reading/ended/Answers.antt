use Rattle.std.proofs.Common.{rules}
use Rattle.cop_bus.proofs.reading.ended.Goals as goal

-- written here so that a body that breaks it is refused at once
pub overflow_add-place : goal.overflow_add-place
overflow_add-place c = search rules

pub returns : goal.returns
returns c = search rules
