use Rattle.std.proofs.Common.{rules}
use Rattle.cop_table.proofs.records.Records.read.Goals as goal

-- written here so that a body that breaks it is refused at once
pub invariant_of-self : goal.invariant_of-self
invariant_of-self c = search rules

pub returns-clause-err : goal.returns-clause-err
returns-clause-err c = search rules

pub returns-clause-next : goal.returns-clause-next
returns-clause-next c = search rules
