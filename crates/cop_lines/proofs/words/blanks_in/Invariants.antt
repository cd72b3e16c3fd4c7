use Rattle.std.proofs.Common.{◌≡◌, ◌+◌, drop}
use Rattle.cop_lines.specs.Words.{blanks_in}
use Rattle.cop_lines.proofs.words.blanks_in.Given as goal

abbrev pub invariant-loop-i : goal.invariant-loop-i
invariant-loop-i l = l.i + blanks_in (drop l.i l.text) ≡ blanks_in l.text
