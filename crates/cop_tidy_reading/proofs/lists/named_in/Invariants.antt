use Rattle.std.proofs.Common.{◌≡◌, [], drop}
use Rattle.std.specs.List.{flat_map}
use Rattle.cop_tidy_reading.specs.SeenLists.{with_all}
use Rattle.cop_tidy_reading.specs.Lists.{found_index}
use Rattle.cop_tidy_reading.proofs.lists.named_in.Given as goal

abbrev pub invariant-loop-index : goal.invariant-loop-index
invariant-loop-index l = with_all l.named.keys (flat_map found_index (drop l.index-index l.found)) ≡ with_all [] (flat_map found_index l.found)
