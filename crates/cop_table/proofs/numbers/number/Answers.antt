use Rattle.std.proofs.Common.{rules}
use Rattle.cop_table.proofs.numbers.number.Goals as goal

-- written here so that a body that breaks it is refused at once
pub short_number-requires-clause-short : goal.short_number-requires-clause-short
short_number-requires-clause-short c = search rules
