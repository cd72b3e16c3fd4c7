use Rattle.std.proofs.Common.{◌≡◌}
use Rattle.cop_lines.specs.Words.{after}
use Rattle.cop_lines.proofs.words.after.Given as goal

abbrev pub invariant-loop-left : goal.invariant-loop-left
invariant-loop-left l = after l.left l.rest ≡ after l.count l.text

abbrev pub decreases-loop-left : goal.decreases-loop-left
decreases-loop-left l = l.left
