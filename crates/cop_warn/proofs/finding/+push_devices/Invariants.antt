use Rattle.std.proofs.Common.{length}
use Rattle.cop_warn.proofs.finding.+push_devices.Given as goal

abbrev pub decreases-push_devices : goal.decreases-push_devices
decreases-push_devices l = length l.devices.now
