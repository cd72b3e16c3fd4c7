use Rattle.std.proofs.Common.{◌≡◌, ◌<◌, ◌^◌, drop}
use Rattle.cop_lines.specs.Numbers.{hexadecimal_from}
use Rattle.cop_lines.proofs.numbers.hexadecimal.Given as goal

abbrev pub invariant-loop-i : goal.invariant-loop-i
invariant-loop-i l = (hexadecimal_from l.n (drop l.i l.text) ≡ hexadecimal_from 0 l.text) × (l.n < 16 ^ l.i)
