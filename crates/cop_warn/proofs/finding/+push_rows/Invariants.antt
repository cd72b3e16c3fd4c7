use Rattle.std.proofs.Common.{length}
use Rattle.cop_warn.proofs.finding.+push_rows.Given as goal

abbrev pub decreases-push_rows : goal.decreases-push_rows
decreases-push_rows l = length l.rows.now
