-- The first section of each name, as the code holds it.
use Rattle.std.specs.Prelude.{ℕ, ◌≡◌, Bool, false, ◌==◌, ◌&&◌, List, map, Option, None, Some}
use Rattle.std.specs.BTreeMap.{BTreeMap, get}
use Rattle.std.specs.Option.{IsSome}
use Rattle.std.specs.BTreeMap.Range.{IsLeBy}
use Rattle.std.specs.declared.cmp.Ordering.{Ordering}
use Rattle.std.specs.Ordering.{nat_cmp, ordering_then}
use Rattle.cop_tidy_reading.specs.declared.contents.Section.{Section}
use Rattle.cop_tidy_reading.specs.declared.items.Item.{Item}
use Rattle.cop_tidy_reading.specs.Items.{Said}
use Rattle.cop_tidy_reading.specs.Sections.{NamePlace, section_at_place}

-- the order of places: by their numbers, the first one first
abbrev pub place_cmp : NamePlace → NamePlace → Ordering
place_cmp a b = ordering_then (ordering_then (nat_cmp a.0 b.0) (nat_cmp a.1 b.1)) (nat_cmp a.2 b.2)

-- the number of the section in which an item stands
abbrev pub section_of : Item → ℕ
section_of item = item.section

-- each place has the first section that is of it
abbrev pub HasFirsts : List Said → BTreeMap NamePlace Section → Type 0
HasFirsts items firsts = (q : NamePlace) → get place_cmp firsts q ≡ section_at_place items (Some q)

-- the first place from one on that has a section
abbrev pub IsNext : BTreeMap NamePlace Section → NamePlace → Option NamePlace → Type 0
IsNext firsts place None = (q : NamePlace) → IsLeBy place_cmp place q → get place_cmp firsts q ≡ None
IsNext firsts place (Some found) =
    IsLeBy place_cmp place found × IsSome (get place_cmp firsts found) × ((q : NamePlace) → IsLeBy place_cmp place q → IsSome (get place_cmp firsts q) → IsLeBy place_cmp found q)

-- the place is of a sub of the index
abbrev pub is_sub_at : ℕ → Option NamePlace → Bool
is_sub_at index None = false
is_sub_at index (Some place) = (place.0 == 1) && (place.1 == index)
