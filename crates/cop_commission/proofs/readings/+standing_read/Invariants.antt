use Rattle.std.proofs.Common.{length}
use Rattle.cop_commission.proofs.readings.+standing_read.Given as goal

abbrev pub decreases-standing_read : goal.decreases-standing_read
decreases-standing_read l = length l.all.now
