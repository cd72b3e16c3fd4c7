use Rattle.std.proofs.Common.{◌≡◌, ◌+◌, drop}
use Rattle.cop_lines.specs.Words.{letters_in}
use Rattle.cop_lines.proofs.words.letters_in.Given as goal

abbrev pub invariant-loop-i : goal.invariant-loop-i
invariant-loop-i l = l.i + letters_in (drop l.i l.text) ≡ letters_in l.text
