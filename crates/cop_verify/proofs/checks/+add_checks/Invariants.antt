use Rattle.std.proofs.Common.{length}
use Rattle.cop_verify.proofs.checks.+add_checks.Given as goal

abbrev pub decreases-add_checks : goal.decreases-add_checks
decreases-add_checks l = length l.settings.now
