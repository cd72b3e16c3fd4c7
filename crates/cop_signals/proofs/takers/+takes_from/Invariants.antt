use Rattle.std.proofs.Common.{length}
use Rattle.cop_signals.proofs.takers.+takes_from.Given as goal

abbrev pub decreases-takes_from : goal.decreases-takes_from
decreases-takes_from l = length l.entries.now
