-- The sections of a text, by what they are of, and their keys.
use Rattle.std.specs.Prelude.{ℕ, Bool, true, false, ◌&&◌, ◌==◌, nat_le, List, length, if◌then◌else◌, Option, Some, None, find, filter}
use Rattle.std.specs.List.{list_any}
use Rattle.std.specs.Option.{option_map, option_and_then}
use Rattle.cop_frame.specs.Rate.{kbits_of}
use Rattle.cop_tidy_lines.specs.declared.names.ListName.{ListName}
use Rattle.cop_tidy_lines.specs.declared.names.ListName.TheVariants as lists
use Rattle.cop_tidy_lines.specs.declared.names.SectionName.{SectionName}
use Rattle.cop_tidy_lines.specs.declared.names.SectionName.TheVariants as names
use Rattle.cop_tidy_lines.specs.declared.keys.Key.{Key}
use Rattle.cop_tidy_lines.specs.declared.keys.Key.TheVariants as keys
use Rattle.cop_tidy_lines.specs.declared.kinds.LineKind.{LineKind}
use Rattle.cop_tidy_lines.specs.declared.kinds.LineKind.TheVariants.{Header, Pair}
use Rattle.cop_tidy_lines.specs.Blanks.{bare}
use Rattle.cop_tidy_lines.specs.Kinds.{stated_value}
pub use Rattle.cop_tidy_reading.specs.declared.contents.Section.{Section}
use Rattle.cop_tidy_reading.specs.Items.{Said}

-- the place of a list among the three
abbrev pub list_place : ListName → ℕ
list_place lists.Mandatory = 0
list_place lists.Optional = 1
list_place lists.Manufacturer = 2

-- a number for what a section is of, and two numbers in it
abbrev pub NamePlace : Type 0
NamePlace = ℕ × ℕ × ℕ

-- what two sections have in common where they are of one thing; nothing reads those without it
abbrev pub place_of : SectionName → Option NamePlace
place_of (names.Object index) = Some (0, index, 0)
place_of (names.Sub index sub) = Some (1, index, sub)
place_of (names.Values index) = Some (2, index, 0)
place_of (names.List list) = Some (3, list_place list, 0)
place_of names.DeviceInfo = Some (4, 0, 0)
place_of (names.Names index) = None
place_of names.Unread = None

-- both have one place
abbrev pub same_place : Option NamePlace → Option NamePlace → Bool
same_place (Some a) (Some b) = (a.0 == b.0) && ((a.1 == b.1) && (a.2 == b.2))
same_place _ _ = false

-- a number that two keys have in common where they are the same; nothing reads keys without one
abbrev pub rank : Key → Option (ℕ × ℕ)
rank keys.ObjectType = Some (0, 0)
rank keys.DataType = Some (1, 0)
rank keys.AccessType = Some (2, 0)
rank keys.DefaultValue = Some (3, 0)
rank keys.ParameterValue = Some (4, 0)
rank keys.PdoMapping = Some (5, 0)
rank keys.LowLimit = Some (6, 0)
rank keys.HighLimit = Some (7, 0)
rank keys.CompactSubObj = Some (8, 0)
rank keys.SupportedObjects = Some (9, 0)
rank (keys.Entry number) = Some (10, number)
rank keys.NrOfEntries = Some (11, 0)
rank (keys.BaudRate rate) = Some (12, kbits_of rate)
rank keys.CompactPdo = Some (13, 0)
rank keys.ReceivedPdos = Some (14, 0)
rank keys.SentPdos = Some (15, 0)
rank keys.Unread = None

-- both have one number
abbrev pub same_rank : Option (ℕ × ℕ) → Option (ℕ × ℕ) → Bool
same_rank (Some a) (Some b) = (a.0 == b.0) && (a.1 == b.1)
same_rank _ _ = false

-- both keys are the same
abbrev pub same_key : Key → Key → Bool
same_key a b = same_rank (rank a) (rank b)

-- the line begins a section of this place
abbrev pub begins_at : NamePlace → LineKind → Bool
begins_at place (Header name) = same_place (place_of name) (Some place)
begins_at place _ = false

-- the line states this key
abbrev pub states : Key → LineKind → Bool
states key (Pair other) = same_key key other
states key _ = false

-- the line states a key
abbrev pub is_pair : LineKind → Bool
is_pair (Pair key) = true
is_pair _ = false

-- the section that a line begins
abbrev pub section_at : Said → Section
section_at item = record { line = item.line; number = item.section }

-- the first section of a place
abbrev pub section_at_place : List Said → Option NamePlace → Option Section
section_at_place items None = None
section_at_place items (Some place) = option_map section_at (find (λ item. begins_at place item.kind) items)

-- the first section of a name counts
abbrev pub section_named : List Said → SectionName → Option Section
section_named items name = section_at_place items (place_of name)

-- the keys of a section
abbrev pub pairs_of : List Said → ℕ → List Said
pairs_of items section = filter (λ item. (item.section == section) && is_pair item.kind) items

-- the first key of a name counts
abbrev pub pair_of : List Said → ℕ → Key → Option Said
pair_of items section key = find (λ item. states key item.kind) (pairs_of items section)

-- the line of a key, and its value as it stands there
abbrev pub raw_by : Option Said → Option (ℕ × List ℕ)
raw_by pair = option_map (λ item. (item.line, stated_value item.body)) pair

-- the same of the first key of a name in a section
abbrev pub raw_of : List Said → ℕ → Key → Option (ℕ × List ℕ)
raw_of items section key = raw_by (pair_of items section key)

-- a value that is not empty
abbrev pub unless_empty : ℕ → List ℕ → Option (ℕ × List ℕ)
unless_empty line text = if length text == 0 then None else Some (line, text)

-- the same without comments, quotes and blanks round it; an empty value counts as an absent key
abbrev pub entry_of : List Said → ℕ → Key → Option (ℕ × List ℕ)
entry_of items section key = option_and_then (λ raw. unless_empty raw.0 (bare raw.1)) (raw_of items section key)

-- a header of a sub of the index, of one from this sub on
abbrev pub is_sub_from : ℕ → ℕ → LineKind → Bool
is_sub_from index least (Header (names.Sub other sub)) = (other == index) && nat_le least sub
is_sub_from index least _ = false

-- a sub of the index has a section, one from this sub on
abbrev pub has_subs_from : List Said → ℕ → ℕ → Bool
has_subs_from items index least = list_any (λ item. is_sub_from index least item.kind) items
