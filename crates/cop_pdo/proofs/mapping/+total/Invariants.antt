use Rattle.std.proofs.Common.{length}
use Rattle.cop_pdo.proofs.mapping.+total.Given as goal

abbrev pub decreases-total : goal.decreases-total
decreases-total l = length l.entries.now
