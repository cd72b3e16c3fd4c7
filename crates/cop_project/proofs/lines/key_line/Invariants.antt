use Rattle.std.proofs.Common.{◌≡◌, ◌≤◌, ◌+◌, length}
use Rattle.cop_project.specs.Lines.{key_line_from, key_line}
use Rattle.cop_project.proofs.lines.key_line.Given as goal

abbrev pub invariant-loop-first : goal.invariant-loop-first
invariant-loop-first l =
    record {
      same : key_line_from l.key l.line l.is_start l.rest ≡ key_line l.key l.text;
      bounded : l.line + length l.rest ≤ length l.text + 1;
    }

abbrev pub decreases-loop-first : goal.decreases-loop-first
decreases-loop-first l = length l.rest
