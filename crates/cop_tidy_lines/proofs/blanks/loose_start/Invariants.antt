use Rattle.std.proofs.Common.{◌≡◌, length}
use Rattle.cop_tidy_lines.specs.Blanks.{loose_start}
use Rattle.cop_tidy_lines.proofs.blanks.loose_start.Given as goal

abbrev pub invariant-loop-first : goal.invariant-loop-first
invariant-loop-first l = loose_start l.rest ≡ loose_start l.bytes

abbrev pub decreases-loop-first : goal.decreases-loop-first
decreases-loop-first l = length l.rest
