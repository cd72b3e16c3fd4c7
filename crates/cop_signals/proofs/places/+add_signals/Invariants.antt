use Rattle.std.proofs.Common.{length}
use Rattle.cop_signals.proofs.places.+add_signals.Given as goal

abbrev pub decreases-add_signals : goal.decreases-add_signals
decreases-add_signals l = length l.entries.now
