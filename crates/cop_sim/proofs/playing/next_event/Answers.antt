use Rattle.std.proofs.Common.{rules}
use Rattle.cop_sim.proofs.playing.next_event.Goals as goal

-- written here so that a body that breaks it is refused at once
pub returns-then-now-until : goal.returns-then-now-until
returns-then-now-until c = search rules
