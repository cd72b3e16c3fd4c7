use Rattle.std.proofs.Common.{◌≡◌, map, drop}
use Rattle.cop_tidy_reading.specs.Seen.{said_of}
use Rattle.cop_tidy_reading.specs.SeenLists.{with_all}
use Rattle.cop_tidy_reading.specs.Lists.{own_indexes}
use Rattle.cop_tidy_reading.proofs.lists.add_unlisted.Given as goal

abbrev pub invariant-loop-item : goal.invariant-loop-item
invariant-loop-item l = with_all l.named.keys (own_indexes (map said_of (drop l.item-index l.items))) ≡ with_all l.initial.named.keys (own_indexes (map said_of l.items))
