use Rattle.cop_bus.proofs.Synced.{sound}
use Rattle.cop_bus.proofs.laws.passing_is_on_time.Goals as goal

pub returns : goal.returns
returns c = sound
