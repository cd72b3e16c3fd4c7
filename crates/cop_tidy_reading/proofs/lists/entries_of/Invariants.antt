use Rattle.std.proofs.Common.{◌≡◌, ◌++◌, map, drop}
use Rattle.std.specs.List.{flat_map}
use Rattle.cop_tidy_reading.specs.Seen.{said_of}
use Rattle.cop_tidy_reading.specs.SeenLists.{entry_seen}
use Rattle.cop_tidy_reading.specs.Lists.{entry_at}
use Rattle.cop_tidy_reading.proofs.lists.entries_of.Given as goal

abbrev pub invariant-loop-item : goal.invariant-loop-item
invariant-loop-item l =
    map entry_seen l.entries.items ++ flat_map (entry_at l.contents) (map said_of (drop l.item-index l.part)) ≡ flat_map (entry_at l.contents) (map said_of l.part)
