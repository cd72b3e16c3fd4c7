use Rattle.cop_table.proofs.RecordLemmas.{field_some, field_none}
use Rattle.cop_table.proofs.records.quoted_field.Goals as goal

pub returns-in-Some : goal.returns-in-Some
returns-in-Some c = (field_some _ _ _ (rw c.in-Some.is at c.get.ensures.value))

pub returns-in-None : goal.returns-in-None
returns-in-None c = (field_none _ _ (rw c.in-None.is at c.get.ensures.value))
