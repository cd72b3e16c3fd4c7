use Rattle.std.proofs.Common.{◌≡◌, ◌+◌, drop}
use Rattle.cop_lines.specs.Words.{place_in}
use Rattle.cop_lines.proofs.words.place_in.Given as goal

abbrev pub invariant-loop-i : goal.invariant-loop-i
invariant-loop-i l = l.i + place_in l.byte (drop l.i l.text) ≡ place_in l.byte l.text
