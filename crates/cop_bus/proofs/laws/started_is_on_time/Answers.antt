use Rattle.cop_bus.proofs.Synced.{started_sound}
use Rattle.cop_bus.proofs.laws.started_is_on_time.Goals as goal

pub returns : goal.returns
returns c = started_sound
