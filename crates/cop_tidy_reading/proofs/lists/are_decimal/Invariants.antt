use Rattle.std.proofs.Common.{◌≡◌, map, drop}
use Rattle.cop_tidy_reading.specs.SeenLists.{entry_seen}
use Rattle.cop_tidy_reading.specs.Lists.{are_decimal}
use Rattle.cop_tidy_reading.proofs.lists.are_decimal.Given as goal

abbrev pub invariant-loop-entry : goal.invariant-loop-entry
invariant-loop-entry l =
    are_decimal l.digits l.contents (map entry_seen (drop l.entry-index l.entries)) ≡ are_decimal l.digits l.contents (map entry_seen l.entries)
