use Rattle.std.proofs.Common.{◌≡◌, map, drop, find}
use Rattle.std.specs.Option.{option_or, option_map}
use Rattle.std.specs.BTreeMap.{get}
use Rattle.cop_tidy_reading.specs.Seen.{said_of}
use Rattle.cop_tidy_reading.specs.Sections.{NamePlace}
use Rattle.cop_tidy_reading.specs.Index.{place_cmp}
use Rattle.cop_tidy_reading.specs.FirstKeys.{states_at}
use Rattle.cop_tidy_reading.proofs.first_keys.first_keys.Given as goal

abbrev pub invariant-loop-item : goal.invariant-loop-item
invariant-loop-item l =
    (q : NamePlace) → option_or (option_map said_of (get place_cmp l.keys q)) (find (states_at q) (map said_of (drop l.item-index l.items))) ≡ find (states_at q) (map said_of l.items)
