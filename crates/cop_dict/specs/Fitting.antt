-- Values that are as wide as their data type says (CiA 301, "Data type entry usage").
use Rattle.std.specs.Prelude.{◌≡◌, ◌<◌, ◌^◌, ℕ, List, length, All, IfSome}
use Rattle.std.specs.Option.{ForSome}
use Rattle.cop_dict.specs.declared.data_type.DataType.{DataType}
use Rattle.cop_dict.specs.Types.{width_of, bits_of}
use Rattle.cop_dict.specs.Number.{number}
use Rattle.cop_dict.specs.Find.{Entry, entry_at}

-- a value of a type of one width is as many bytes, and its number has no more bits than the type has in a PDO
pub record FitsType (data_type : DataType) (value : List ℕ) : Type 0 where
  pub width : ForSome (width_of data_type) (λ width. length value ≡ width)
  pub bytes : ForSome (width_of data_type) (λ width. All (λ byte. byte < 256) value)
  pub small : ForSome (bits_of data_type) (λ bits. number value < 2 ^ bits)

-- an entry's value fits its type, now and initially
pub record IsFitting (entry : Entry) : Type 0 where
  pub value : FitsType entry.description.data_type entry.value
  pub initial : FitsType entry.description.data_type entry.initial

-- whatever stands anywhere fits
abbrev pub HasFittingValues : List Entry → Type 0
HasFittingValues dict = (index sub : ℕ) → IfSome (entry_at dict index sub) IsFitting
