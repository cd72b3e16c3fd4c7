use Rattle.std.proofs.Common.{rules}
use Rattle.cop_bus.proofs.lateness.misses.Goals as goal

-- written here so that a body that breaks it is refused at once
pub returns-else-by-from : goal.returns-else-by-from
returns-else-by-from c = search rules
