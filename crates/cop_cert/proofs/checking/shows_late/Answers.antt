use Rattle.std.proofs.Common.{rules}
use Rattle.cop_cert.proofs.checking.shows_late.Goals as goal

-- written here so that a body that breaks it is refused at once
pub returns-then-q-instances : goal.returns-then-q-instances
returns-then-q-instances c = search rules
