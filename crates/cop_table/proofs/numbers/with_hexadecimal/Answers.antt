use Rattle.std.proofs.Common.{rules}
use Rattle.cop_table.proofs.numbers.with_hexadecimal.Goals as goal

-- written here so that a body that breaks it is refused at once
pub returns : goal.returns
returns c = search rules
