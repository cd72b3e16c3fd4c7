-- PDOs that a dictionary can switch off.
use Rattle.std.specs.Prelude.{ℕ, ◌≡◌, Bool, true, false, not, ◌||◌, List, Option, Some, None, Ok, All}
use Rattle.cop_dict.specs.Types.{is_unsigned32}
use Rattle.cop_dict.specs.Find.{Entry, entry_at}
use Rattle.cop_dict.specs.Mapping.{is_between}
use Rattle.cop_dict.specs.Build.{built}

-- the index of a PDO's communication record
abbrev pub is_record : ℕ → Bool
is_record index = is_between 0x1400 0x15FF index || is_between 0x1800 0x19FF index

-- an entry is an UNSIGNED32, as an identifier is
abbrev pub is_identifier : Option Entry → Bool
is_identifier None = false
is_identifier (Some entry) = is_unsigned32 entry.description.data_type

-- an entry is of no PDO's communication record, or has an UNSIGNED32 beside it at sub 1
abbrev pub identified : List Entry → Entry → Bool
identified dict entry = not (is_record entry.index) || is_identifier (entry_at dict entry.index 1)

abbrev pub IsIdentified : List Entry → Entry → Type 0
IsIdentified dict entry = identified dict entry ≡ true

-- in the dictionary of the text for a node each PDO's record that has an entry has an identifier
abbrev pub AreIdentified : ℕ → List ℕ → Type 0
AreIdentified node text = (dict : List Entry) → built text node ≡ Ok dict → All (IsIdentified dict) dict
