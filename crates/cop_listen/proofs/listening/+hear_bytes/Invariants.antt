use Rattle.std.proofs.Common.{length}
use Rattle.cop_listen.proofs.listening.+hear_bytes.Given as goal

abbrev pub decreases-hear_bytes : goal.decreases-hear_bytes
decreases-hear_bytes g l = length l.bytes.now
