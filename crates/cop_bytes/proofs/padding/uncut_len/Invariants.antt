use Rattle.std.proofs.Common.{◌≡◌, ◌≤◌, ◌-◌, drop, take, length}
use Rattle.std.specs.List.{list_all}
use Rattle.cop_bytes.specs.Bytes.{is_padding, uncut}
use Rattle.cop_bytes.proofs.padding.uncut_len.Given as goal

abbrev pub invariant-loop-at : goal.invariant-loop-at
invariant-loop-at l =
    record {
      padded : l.is_padded ≡ list_all is_padding (drop l.at l.text);
      kept : take (l.kept - l.at) (drop l.at l.text) ≡ uncut (drop l.at l.text);
      lower : l.at ≤ l.kept;
      bounded : l.kept ≤ length l.text;
    }

abbrev pub decreases-loop-at : goal.decreases-loop-at
decreases-loop-at l = l.at
