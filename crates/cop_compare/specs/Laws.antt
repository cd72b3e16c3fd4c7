-- What the differences of two dictionaries say of them, and of a device that has what one of them describes.
use Rattle.std.specs.Prelude.{◌≡◌, ℕ, List, Option, Some, None}
use Rattle.cop_dict.specs.Find.{Entry, AreAlike, entry_at}
use Rattle.cop_pdo.specs.Bits.{value_at}

-- both have an entry there, and these are alike, or neither has one
abbrev pub AreAlikeThere : Option Entry → Option Entry → Type 0
AreAlikeThere None None = Unit {0}
AreAlikeThere (Some old) (Some new) = AreAlike old new
AreAlikeThere (Some old) None = ⊥
AreAlikeThere None (Some new) = ⊥

-- two dictionaries are alike at each address
abbrev pub AreAlikeEverywhere : List Entry → List Entry → Type 0
AreAlikeEverywhere old new = (index sub : ℕ) → AreAlikeThere (entry_at old index sub) (entry_at new index sub)

-- a device has the value that a dictionary describes at an address, if it describes one
abbrev pub HasValueAt : List Entry → List Entry → ℕ → ℕ → Type 0
HasValueAt device dict index sub = (entry : Entry) → entry_at dict index sub ≡ Some entry → value_at device index sub ≡ Some entry.value

-- and so at each address
abbrev pub HasValuesOf : List Entry → List Entry → Type 0
HasValuesOf device dict = (index sub : ℕ) → HasValueAt device dict index sub
