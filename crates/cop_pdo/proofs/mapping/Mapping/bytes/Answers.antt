use Rattle.std.proofs.Common.{rules}
use Rattle.cop_pdo.proofs.mapping.Mapping.bytes.Goals as goal

-- written here so that a body that breaks it is refused at once
pub returns-clause-bytes : goal.returns-clause-bytes
returns-clause-bytes c = search rules
