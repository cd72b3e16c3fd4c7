use Rattle.std.proofs.Common.{◌≡◌, length}
use Rattle.cop_tidy_lines.specs.Blanks.{margin_start}
use Rattle.cop_tidy_lines.proofs.blanks.margin_start.Given as goal

abbrev pub invariant-loop-first : goal.invariant-loop-first
invariant-loop-first l = margin_start l.rest ≡ margin_start l.bytes

abbrev pub decreases-loop-first : goal.decreases-loop-first
decreases-loop-first l = length l.rest
