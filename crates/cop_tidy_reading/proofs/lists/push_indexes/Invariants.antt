use Rattle.std.proofs.Common.{◌≡◌, ◌++◌, map, drop}
use Rattle.cop_tidy_reading.specs.SeenLists.{entry_seen}
use Rattle.cop_tidy_reading.specs.Lists.{index_of}
use Rattle.cop_tidy_reading.proofs.lists.push_indexes.Given as goal

abbrev pub invariant-loop-entry : goal.invariant-loop-entry
invariant-loop-entry l =
    l.found.items ++ map (index_of l.digits l.contents l.is_list_decimal) (map entry_seen (drop l.entry-index l.entries))
    ≡ l.initial.found.items ++ map (index_of l.digits l.contents l.is_list_decimal) (map entry_seen l.entries)
