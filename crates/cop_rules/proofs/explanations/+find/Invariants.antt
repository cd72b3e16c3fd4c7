use Rattle.std.proofs.Common.{length}
use Rattle.cop_rules.proofs.explanations.+find.Given as goal

abbrev pub decreases-find : goal.decreases-find
decreases-find l = length l.explanations.now
