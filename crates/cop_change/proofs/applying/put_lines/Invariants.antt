use Rattle.std.proofs.Common.{◌≡◌, ◌≤◌, ◌+◌, ◌++◌, length}
use Rattle.cop_eds.specs.Text.{cut}
use Rattle.cop_change.specs.Applied.{lines_with}
use Rattle.cop_change.proofs.applying.put_lines.Given as goal

abbrev pub invariant-loop-rest : goal.invariant-loop-rest
invariant-loop-rest l =
    record {
      whole : l.text.items ++ lines_with l.newline l.place (cut l.rest) l.left ≡ l.initial.text.items ++ lines_with l.newline 1 (cut l.lines) l.changes;
      counted : l.place + length l.rest ≤ length l.lines + 1;
    }

abbrev pub decreases-loop-rest : goal.decreases-loop-rest
decreases-loop-rest l = length l.rest
