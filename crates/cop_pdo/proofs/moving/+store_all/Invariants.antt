use Rattle.std.proofs.Common.{length}
use Rattle.cop_pdo.proofs.moving.+store_all.Given as goal

abbrev pub decreases-store_all : goal.decreases-store_all
decreases-store_all l = length l.entries.now
