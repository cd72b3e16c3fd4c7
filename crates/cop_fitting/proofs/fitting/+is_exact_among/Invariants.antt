use Rattle.std.proofs.Common.{length}
use Rattle.cop_fitting.proofs.fitting.+is_exact_among.Given as goal

abbrev pub decreases-is_exact_among : goal.decreases-is_exact_among
decreases-is_exact_among l = length l.all.now
