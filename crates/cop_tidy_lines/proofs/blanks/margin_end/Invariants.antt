use Rattle.std.proofs.Common.{◌≡◌, length, reverse}
use Rattle.cop_tidy_lines.specs.Blanks.{margin_start}
use Rattle.cop_tidy_lines.proofs.blanks.margin_end.Given as goal

abbrev pub invariant-loop-last : goal.invariant-loop-last
invariant-loop-last l = margin_start (reverse l.rest) ≡ margin_start (reverse l.bytes)

abbrev pub decreases-loop-last : goal.decreases-loop-last
decreases-loop-last l = length l.rest
