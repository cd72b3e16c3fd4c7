use Rattle.std.proofs.Common.{◌≡◌, ◌≤◌, ◌+◌, length}
use Rattle.cop_project.specs.Lines.{line_ends}
use Rattle.cop_project.proofs.lines.line_ends.Given as goal

abbrev pub invariant-loop-first : goal.invariant-loop-first
invariant-loop-first l =
    record {
      counted : l.count + line_ends l.rest ≡ line_ends l.text;
      bounded : l.count + length l.rest ≤ length l.text;
    }

abbrev pub decreases-loop-first : goal.decreases-loop-first
decreases-loop-first l = length l.rest
