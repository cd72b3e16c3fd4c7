use Rattle.std.proofs.Common.{rules}
use Rattle.cop_bus.proofs.judging.is_not_idle.Goals as goal

-- written here so that a body that breaks it is refused at once
pub returns-else-moment-at_of : goal.returns-else-moment-at_of
returns-else-moment-at_of c = search rules
