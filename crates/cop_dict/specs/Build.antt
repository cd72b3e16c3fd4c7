-- The dictionary of a device, as its EDS text describes it for a node (CiA 306).
use Rattle.std.specs.Prelude.{◌≡◌, ℕ, List, [], ◌∷◌, map, replicate, unwrap_or, codes, if◌then◌else◌, ℤ, Option, Some, None, Result, Ok}
use Rattle.std.specs.Int.{bytes_low_first}
use Rattle.std.specs.Option.{option_or}
use Rattle.cop_eds.specs.declared.fault.Refusal.{Refusal}
use Rattle.cop_eds.specs.declared.description.Object.{Object}
use Rattle.cop_eds.specs.Steps.{◌>>=◌}
use Rattle.cop_eds.specs.Kept.{seen}
use Rattle.cop_eds.specs.Sections.{entry_of, value_in}
use Rattle.cop_eds.specs.Objects.{objects_of}
use Rattle.cop_dict.specs.declared.data_type.DataType.{DataType}
use Rattle.cop_dict.specs.Types.{width_of, greatest_of, is_text, type_numbered}
use Rattle.cop_dict.specs.Number.{value_of}
use Rattle.cop_dict.specs.Patterns.{pattern_at}
use Rattle.cop_dict.specs.Find.{Entry}

-- as many bytes as values of the type have at least
abbrev pub least_width : DataType → ℕ
least_width data_type = unwrap_or (width_of data_type) 0

-- the value of an object without one
abbrev pub zeros : DataType → List ℕ
zeros data_type = replicate (least_width data_type) 0

-- the bytes of a number, the least significant first
abbrev pub number_bytes : DataType → Result ℕ Refusal → Result (List ℕ) Refusal
number_bytes data_type pattern = pattern >>= λ pattern. Ok (bytes_low_first 0 (least_width data_type) pattern)

-- the initial value of a type that is no text: of one without numbers, what the text says is not read
abbrev pub initial_number : DataType → Option ℕ → ℕ → ℕ × List ℕ → Result (List ℕ) Refusal
initial_number data_type None node entry = Ok (zeros data_type)
initial_number data_type (Some greatest) node entry = number_bytes data_type (pattern_at data_type greatest node entry)

-- the initial value
abbrev pub initial_of : DataType → ℕ → Option (ℕ × List ℕ) → Result (List ℕ) Refusal
initial_of data_type node None = Ok (zeros data_type)
initial_of data_type node (Some entry) =
    if is_text data_type then Ok entry.1 else initial_number data_type (greatest_of data_type) node entry

abbrev pub limit_number : DataType → Option ℕ → ℕ → ℕ × List ℕ → Result (Option ℤ) Refusal
limit_number data_type None node entry = Ok None
limit_number data_type (Some greatest) node entry = pattern_at data_type greatest node entry >>= λ pattern. Ok (Some (value_of data_type pattern))

-- a limit, in a type that has numbers
abbrev pub limit_of : DataType → ℕ → Option (ℕ × List ℕ) → Result (Option ℤ) Refusal
limit_of data_type node None = Ok None
limit_of data_type node (Some entry) = limit_number data_type (greatest_of data_type) node entry

-- ParameterValue, else DefaultValue
abbrev pub value_entry : List ℕ → ℕ → Option (ℕ × List ℕ)
value_entry text section = option_or (entry_of text section (codes "ParameterValue")) (entry_of text section (codes "DefaultValue"))

-- the entry of an object whose values have a type: its value, its low limit and its high limit are read in this order
unfoldable pub entry_of_type : List ℕ → ℕ → Object → DataType → Result Entry Refusal
entry_of_type text node object data_type = do
  initial ← initial_of data_type node (value_entry text object.place.section)
  low ← limit_of data_type node (entry_of text object.place.section (codes "LowLimit"))
  high ← limit_of data_type node (entry_of text object.place.section (codes "HighLimit"))
  Ok (record {
    index = object.index;
    sub = object.sub;
    description = record { data_type = data_type; access = object.access; is_mappable = object.is_mappable; low = low; high = high };
    initial = initial;
    value = initial;
  })

abbrev pub entry_built : List ℕ → ℕ → Object → Result Entry Refusal
entry_built text node object = entry_of_type text node object (type_numbered object.data_type)

-- what all of them give, in order, or the first refusal
unfoldable pub collected : {A B : Type 0} → (A → Result B Refusal) → List A → Result (List B) Refusal
collected f [] = Ok []
collected f (x ∷ xs) = do
  y ← f x
  ys ← collected f xs
  Ok (y ∷ ys)

-- the entries by rising index and sub, or the first refusal in this order
abbrev pub built : List ℕ → ℕ → Result (List Entry) Refusal
built text node = collected (entry_built text node) (objects_of text)

-- A text describes what another does: it has the same objects, at other lines perhaps, and in each section the same values
-- and limits.
pub record AgreesWith (old new : List ℕ) : Type 0 where
  pub objects : map seen (objects_of new) ≡ map seen (objects_of old)
  pub value : (section : ℕ) → value_in new section (codes "ParameterValue") ≡ value_in old section (codes "ParameterValue")
  pub default : (section : ℕ) → value_in new section (codes "DefaultValue") ≡ value_in old section (codes "DefaultValue")
  pub low : (section : ℕ) → value_in new section (codes "LowLimit") ≡ value_in old section (codes "LowLimit")
  pub high : (section : ℕ) → value_in new section (codes "HighLimit") ≡ value_in old section (codes "HighLimit")
