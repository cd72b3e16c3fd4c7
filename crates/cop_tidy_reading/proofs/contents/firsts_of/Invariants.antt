use Rattle.std.proofs.Common.{◌≡◌, Some, map, drop}
use Rattle.std.specs.Option.{option_or}
use Rattle.std.specs.BTreeMap.{get}
use Rattle.cop_tidy_reading.specs.Seen.{said_of}
use Rattle.cop_tidy_reading.specs.Sections.{NamePlace, section_at_place}
use Rattle.cop_tidy_reading.specs.Index.{place_cmp}
use Rattle.cop_tidy_reading.proofs.contents.firsts_of.Given as goal

abbrev pub invariant-loop-item : goal.invariant-loop-item
invariant-loop-item l =
    (q : NamePlace) → option_or (get place_cmp l.firsts q) (section_at_place (map said_of (drop l.item-index l.items)) (Some q)) ≡ section_at_place (map said_of l.items) (Some q)
