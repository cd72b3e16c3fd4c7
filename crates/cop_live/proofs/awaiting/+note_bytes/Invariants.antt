use Rattle.std.proofs.Common.{length}
use Rattle.cop_live.proofs.awaiting.+note_bytes.Given as goal

abbrev pub decreases-note_bytes : goal.decreases-note_bytes
decreases-note_bytes l = length l.bytes.now
