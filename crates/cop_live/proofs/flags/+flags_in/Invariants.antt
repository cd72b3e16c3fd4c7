use Rattle.std.proofs.Common.{length}
use Rattle.cop_live.proofs.flags.+flags_in.Given as goal

abbrev pub decreases-flags_in : goal.decreases-flags_in
decreases-flags_in l = length l.bytes.now
