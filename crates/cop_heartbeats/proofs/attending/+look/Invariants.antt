use Rattle.std.proofs.Common.{length}
use Rattle.cop_heartbeats.proofs.attending.+look.Given as goal

abbrev pub decreases-look : goal.decreases-look
decreases-look l = length l.awaited.now
