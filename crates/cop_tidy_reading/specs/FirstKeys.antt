-- The first line of each key of each section, as the code holds it.
use Rattle.std.specs.Prelude.{ℕ, Bool, ◌≡◌, List, Option, Some, None, find}
use Rattle.std.specs.Option.{option_map}
use Rattle.std.specs.BTreeMap.{BTreeMap, get}
use Rattle.cop_tidy_lines.specs.declared.keys.Key.{Key}
use Rattle.cop_tidy_lines.specs.declared.kinds.LineKind.{LineKind}
use Rattle.cop_tidy_lines.specs.declared.kinds.LineKind.TheVariants.{Pair}
use Rattle.cop_tidy_reading.specs.declared.items.Item.{Item}
use Rattle.cop_tidy_reading.specs.Seen.{said_of}
use Rattle.cop_tidy_reading.specs.Items.{Said}
use Rattle.cop_tidy_reading.specs.Sections.{NamePlace, rank, same_place}
use Rattle.cop_tidy_reading.specs.Index.{place_cmp}

-- the number of a section, and that of a key
abbrev pub placed : ℕ → Option (ℕ × ℕ) → Option NamePlace
placed section None = None
placed section (Some rank) = Some (section, rank.0, rank.1)

-- what two lines have in common that state one key of one section; nothing reads those without it
abbrev pub key_place : ℕ → Key → Option NamePlace
key_place section key = placed section (rank key)

-- the place of the key that a line states
abbrev pub place_stated : ℕ → LineKind → Option NamePlace
place_stated section (Pair key) = key_place section key
place_stated section _ = None

-- the line states the key at this place
abbrev pub states_at : NamePlace → Said → Bool
states_at place item = same_place (place_stated item.section item.kind) (Some place)

-- each place has the first line that states its key
abbrev pub HasKeys : List Said → BTreeMap NamePlace Item → Type 0
HasKeys items keys = (q : NamePlace) → option_map said_of (get place_cmp keys q) ≡ find (states_at q) items
