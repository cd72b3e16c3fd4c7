use Rattle.std.proofs.Common.{rules}
use Rattle.cop_sim.proofs.choosing.is_lower.Goals as goal

-- written here so that a body that breaks it is refused at once
pub returns-in-Some : goal.returns-in-Some
returns-in-Some c = search rules
