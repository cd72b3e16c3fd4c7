use Rattle.std.proofs.Common.{◌≡◌, ℕ, ◌*◌, ◌≤◌, ◌++◌, length, map, drop}
use Rattle.cop_cert.specs.Format.{Fields, lines}
use Rattle.cop_cert.specs.Writer.{IsHead}
use Rattle.cop_cert.proofs.lines.put_lines.Given as goal

abbrev pub invariant-loop-last : goal.invariant-loop-last
invariant-loop-last l = record {
  room : length l.rest * 112 ≤ l.start;
  within : l.start ≤ 1792;
  lines : (row : ℕ → Fields) → IsHead l.head row → lines (map row l.rest) ++ drop l.start l.block ≡ lines (map row l.numbers);
}

abbrev pub decreases-loop-last : goal.decreases-loop-last
decreases-loop-last l = length l.rest
