use Rattle.std.proofs.Common.{length}
use Rattle.cop_dcf.proofs.writing.+set_key.Given as goal

abbrev pub decreases-set_key : goal.decreases-set_key
decreases-set_key l = length l.keys.now
