use Rattle.std.proofs.Common.{length}
use Rattle.cop_commission.proofs.told.+add_offs.Given as goal

abbrev pub decreases-add_offs : goal.decreases-add_offs
decreases-add_offs l = length l.settings.now
