-- A dictionary as contracts see it: a finite map from index and sub to an entry, as a list that rises by index and sub.
use Rattle.std.specs.Prelude.{◌≡◌, ℕ, Bool, true, ◌&&◌, ◌||◌, List, ◌==◌, nat_lt, if◌then◌else◌, ℤ, Option, Some, None, option_map, find}
use Rattle.std.specs.List.{AllPairs}
use Rattle.cop_dict.specs.declared.description.Description.{Description}
use Rattle.cop_dict.specs.Types.{is_unsigned32, greatest_of}
use Rattle.cop_dict.specs.Number.{number, value_of}

-- what stands at an index and a sub
pub record Entry : Type 0 where
  pub index : ℕ
  pub sub : ℕ
  pub description : Description
  pub initial : List ℕ
  pub value : List ℕ

-- an entry has the type, access, flag, limits and value of another
abbrev pub AreAlike : Entry → Entry → Type 0
AreAlike entry other = (other.description ≡ entry.description) × (other.value ≡ entry.value)

-- the number that an UNSIGNED32 holds
abbrev pub unsigned32_of : Entry → Option ℕ
unsigned32_of entry = if is_unsigned32 entry.description.data_type then Some (number entry.value) else None

-- the number that a value stands for, in a type that has numbers
abbrev pub integer_of : Entry → Option ℤ
integer_of entry = option_map (λ _. value_of entry.description.data_type (number entry.value)) (greatest_of entry.description.data_type)

abbrev pub is_at : ℕ → ℕ → Entry → Bool
is_at index sub entry = (entry.index == index) && (entry.sub == sub)

-- an entry whose index is less, or the same with a lesser sub
abbrev pub is_before : ℕ → ℕ → Entry → Bool
is_before index sub entry = nat_lt entry.index index || ((entry.index == index) && nat_lt entry.sub sub)

-- each entry stands before all later ones, so no two have one address
abbrev pub IsSorted : List Entry → Type 0
IsSorted dict = AllPairs (λ entry later. is_before later.index later.sub entry ≡ true) dict

-- what stands at an index and a sub
abbrev pub entry_at : List Entry → ℕ → ℕ → Option Entry
entry_at dict index sub = find (is_at index sub) dict
