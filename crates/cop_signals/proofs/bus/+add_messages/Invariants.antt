use Rattle.std.proofs.Common.{length}
use Rattle.cop_signals.proofs.bus.+add_messages.Given as goal

abbrev pub decreases-add_messages : goal.decreases-add_messages
decreases-add_messages l = length l.streams.now
