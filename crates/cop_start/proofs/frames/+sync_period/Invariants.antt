use Rattle.std.proofs.Common.{length}
use Rattle.cop_start.proofs.frames.+sync_period.Given as goal

abbrev pub decreases-sync_period : goal.decreases-sync_period
decreases-sync_period l = length l.sources.now
