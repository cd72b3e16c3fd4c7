use Rattle.std.proofs.Common.{◌≡◌, ◌≤◌, drop, length, reverse, slice_index}
use Rattle.cop_bytes.specs.Bytes.{short_ends, ends_line}
use Rattle.cop_bytes.proofs.ends.short_ends.Given as goal

abbrev pub invariant-loop-at : goal.invariant-loop-at
invariant-loop-at l =
    record {
      kept : reverse l.kept.items ≡ short_ends (drop l.at l.text);
      ended : l.ends ≡ ends_line (drop l.at l.text);
      next : l.next ≡ slice_index (drop l.at l.text) 0;
      bounded : l.at ≤ length l.text;
    }

abbrev pub decreases-loop-at : goal.decreases-loop-at
decreases-loop-at l = l.at
