use Rattle.std.proofs.Common.{length}
use Rattle.cop_identity.proofs.telling.+told_at.Given as goal

abbrev pub decreases-told_at : goal.decreases-told_at
decreases-told_at l = length l.all.now
