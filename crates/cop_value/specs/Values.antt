-- Values of objects as people write them (CiA 306, DefaultValue), and the numbers that bytes are (CiA 301, "Data types").
use Rattle.std.specs.Prelude.{ℕ, List, false, ◌==◌, length, if◌then◌else◌, ℤ, Option, Some, None, Result, Ok, Err, not}
use Rattle.std.specs.Int.{bytes_low_first}
use Rattle.std.specs.Option.{option_map, option_map_or, option_and_then}
use Rattle.hex.specs.Hex.{decode_of}
use Rattle.cop_eds.specs.Amount.{amount_of}
use Rattle.cop_dict.specs.declared.data_type.DataType.{DataType}
use Rattle.cop_dict.specs.declared.data_type.DataType.TheVariants as types
use Rattle.cop_dict.specs.Types.{width_of, greatest_of}
use Rattle.cop_dict.specs.Number.{number, value_of}
use Rattle.cop_dict.specs.Patterns.{pattern_of}
use Rattle.cop_dict.specs.Build.{least_width}

-- what is there, if it is
abbrev pub got : {T E : Type 0} → Result T E → Option T
got (Ok x) = Some x
got (Err e) = None

-- the bytes of the number that a text writes, the least significant first, in a type with this greatest number
abbrev pub number_bytes : DataType → ℕ → ℕ → List ℕ → Option (List ℕ)
number_bytes data_type greatest node text =
    option_map (bytes_low_first 0 (least_width data_type)) (option_and_then (pattern_of data_type greatest node) (got (amount_of text)))

-- the bytes that hexadecimal digits write, two for each
abbrev pub digit_bytes : List ℕ → Option (List ℕ)
digit_bytes text = got (decode_of text)

-- as many bytes as each value of the type has, if all have as many
abbrev pub of_width : DataType → List ℕ → Option (List ℕ)
of_width data_type bytes = if option_map_or (λ width. not (width == length bytes)) (width_of data_type) false then None else Some bytes

-- the bytes that a text writes in a type without numbers
abbrev pub plain_bytes : DataType → List ℕ → Option (List ℕ)
plain_bytes types.VisibleString text = Some text
plain_bytes data_type text = option_and_then (of_width data_type) (digit_bytes text)

-- the bytes that a text writes in a type
abbrev pub bytes_by : DataType → Option ℕ → ℕ → List ℕ → Option (List ℕ)
bytes_by data_type None node text = plain_bytes data_type text
bytes_by data_type (Some greatest) node text = number_bytes data_type greatest node text

abbrev pub bytes_of : DataType → ℕ → List ℕ → Option (List ℕ)
bytes_of data_type node text = bytes_by data_type (greatest_of data_type) node text

-- the number that bytes are in a type with numbers, if they are as many as each of its values has
abbrev pub number_by : DataType → List ℕ → Option ℕ → Option ℤ
number_by data_type bytes None = None
number_by data_type bytes (Some width) = if width == length bytes then Some (value_of data_type (number bytes)) else None

abbrev pub number_in : DataType → List ℕ → Option ℤ
number_in data_type bytes = option_and_then (λ greatest. number_by data_type bytes (width_of data_type)) (greatest_of data_type)
