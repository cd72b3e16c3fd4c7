use Rattle.std.proofs.Common.{length}
use Rattle.cop_start.proofs.tables.+add_devices.Given as goal

abbrev pub decreases-add_devices : goal.decreases-add_devices
decreases-add_devices l = length l.sources.now
