use Rattle.std.proofs.Common.{length}
use Rattle.cop_pdo.proofs.layout.+has_span.Given as goal

abbrev pub decreases-has_span : goal.decreases-has_span
decreases-has_span l = length l.entries.now
