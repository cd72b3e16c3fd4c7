use Rattle.std.proofs.Common.{◌≡◌, ◌-◌, length, take}
use Rattle.cop_lines.specs.Numbers.{bytes_in}
use Rattle.cop_lines.proofs.Parts.{joined}
use Rattle.cop_lines.proofs.numbers.bytes_in.Given as goal

abbrev pub invariant-loop-i : goal.invariant-loop-i
invariant-loop-i l = joined (take l.i l.body) (bytes_in l.base (length l.initial.body - l.i) l.rest) ≡ bytes_in l.base (length l.initial.body) l.text
