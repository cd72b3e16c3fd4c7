use Rattle.std.proofs.Common.{rules}
use Rattle.cop_sim.proofs.seats.ask.Goals as goal

-- written here so that a body that breaks it is refused at once
pub returns-else-obeys-clause-breaks : goal.returns-else-obeys-clause-breaks
returns-else-obeys-clause-breaks c = search rules
