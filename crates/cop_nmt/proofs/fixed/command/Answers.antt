use Rattle.std.proofs.Common.{rules}
use Rattle.cop_nmt.proofs.fixed.command.Goals as goal

-- written here so that a body that breaks it is refused at once
pub returns-clause-whole : goal.returns-clause-whole
returns-clause-whole c = search rules
