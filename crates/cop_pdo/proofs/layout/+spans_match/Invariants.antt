use Rattle.std.proofs.Common.{length}
use Rattle.cop_pdo.proofs.layout.+spans_match.Given as goal

abbrev pub decreases-spans_match : goal.decreases-spans_match
decreases-spans_match l = length l.received.now
