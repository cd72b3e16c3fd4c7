use Rattle.std.proofs.Common.{◌≡◌, length}
use Rattle.cop_table.specs.Plain.{is_line_end, pieces, cut_lines}
use Rattle.cop_table.proofs.lines.next_line.Given as goal

abbrev pub invariant-loop-first : goal.invariant-loop-first
invariant-loop-first l = cut_lines (pieces is_line_end l.rest) ≡ cut_lines (pieces is_line_end l.text)

abbrev pub decreases-loop-first : goal.decreases-loop-first
decreases-loop-first l = length l.rest
