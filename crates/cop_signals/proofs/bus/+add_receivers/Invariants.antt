use Rattle.std.proofs.Common.{length}
use Rattle.cop_signals.proofs.bus.+add_receivers.Given as goal

abbrev pub decreases-add_receivers : goal.decreases-add_receivers
decreases-add_receivers l = length l.consumers.now
