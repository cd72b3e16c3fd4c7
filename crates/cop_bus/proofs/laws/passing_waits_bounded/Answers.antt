use Rattle.cop_bus.proofs.Synced.{waits_bounded}
use Rattle.cop_bus.proofs.laws.passing_waits_bounded.Goals as goal

pub returns : goal.returns
returns c = waits_bounded
