use Rattle.std.proofs.Common.{length}
use Rattle.cop_commission.proofs.commissioning.+longest.Given as goal

abbrev pub decreases-longest : goal.decreases-longest
decreases-longest l = length l.awaited.now
