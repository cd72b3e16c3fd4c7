use Rattle.std.proofs.Common.{length}
use Rattle.cop_warn.proofs.receivers.+push_consumers.Given as goal

abbrev pub decreases-push_consumers : goal.decreases-push_consumers
decreases-push_consumers l = length l.consumers.now
