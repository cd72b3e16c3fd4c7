use Rattle.std.proofs.Common.{length}
use Rattle.cop_commission.proofs.identities.+finding_of.Given as goal

abbrev pub decreases-finding_of : goal.decreases-finding_of
decreases-finding_of l = length l.all.now
