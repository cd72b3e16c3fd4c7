use Rattle.std.proofs.Common.{rules}
use Rattle.cop_rta.proofs.tables.stream_of.Goals as goal

-- written here so that a body that breaks it is refused at once
pub invariant_of-result : goal.invariant_of-result
invariant_of-result c = search rules

pub returns : goal.returns
returns c = search rules
