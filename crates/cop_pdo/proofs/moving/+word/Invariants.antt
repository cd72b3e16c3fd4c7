use Rattle.std.proofs.Common.{length}
use Rattle.cop_pdo.proofs.moving.+word.Given as goal

abbrev pub decreases-word : goal.decreases-word
decreases-word l = length l.entries.now
