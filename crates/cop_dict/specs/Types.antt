-- Data types and accesses of entries (CiA 301, "Data type entry usage"; CiA 306, AccessType).
use Rattle.std.specs.Prelude.{ℕ, ◌*◌, ◌-◌, ◌^◌, ◌==◌, Bool, true, false, Option, Some, None, option_map, if◌then◌else◌}
use Rattle.cop_dict.specs.declared.data_type.DataType.{DataType}
use Rattle.cop_dict.specs.declared.data_type.DataType.TheVariants as types
use Rattle.cop_eds.specs.declared.description.Access.{Access}
use Rattle.cop_eds.specs.declared.description.Access.TheVariants as accesses

-- how many bytes each value has, where all have as many
abbrev pub width_of : DataType → Option ℕ
width_of types.Boolean = Some 1
width_of types.Integer8 = Some 1
width_of types.Integer16 = Some 2
width_of types.Integer32 = Some 4
width_of types.Integer64 = Some 8
width_of types.Unsigned8 = Some 1
width_of types.Unsigned16 = Some 2
width_of types.Unsigned32 = Some 4
width_of types.Unsigned64 = Some 8
width_of types.Real32 = Some 4
width_of types.Real64 = Some 8
width_of types.VisibleString = None
width_of types.OctetString = None
width_of types.Domain = None
width_of types.Opaque = None

-- how many bits a value has in a PDO
abbrev pub bits_of : DataType → Option ℕ
bits_of types.Boolean = Some 1
bits_of data_type = option_map (λ width. 8 * width) (width_of data_type)

-- the first pattern of a signed type that stands for a negative number
abbrev pub half_of : DataType → Option ℕ
half_of types.Integer8 = Some (2 ^ 7)
half_of types.Integer16 = Some (2 ^ 15)
half_of types.Integer32 = Some (2 ^ 31)
half_of types.Integer64 = Some (2 ^ 63)
half_of _ = None

-- the greatest number of a type that has numbers: strings, DOMAIN, REAL and opaque types have none
abbrev pub greatest_of : DataType → Option ℕ
greatest_of types.Boolean = Some 1
greatest_of types.Integer8 = Some (2 ^ 7 - 1)
greatest_of types.Integer16 = Some (2 ^ 15 - 1)
greatest_of types.Integer32 = Some (2 ^ 31 - 1)
greatest_of types.Integer64 = Some (2 ^ 63 - 1)
greatest_of types.Unsigned8 = Some (2 ^ 8 - 1)
greatest_of types.Unsigned16 = Some (2 ^ 16 - 1)
greatest_of types.Unsigned32 = Some (2 ^ 32 - 1)
greatest_of types.Unsigned64 = Some (2 ^ 64 - 1)
greatest_of types.Real32 = None
greatest_of types.Real64 = None
greatest_of types.VisibleString = None
greatest_of types.OctetString = None
greatest_of types.Domain = None
greatest_of types.Opaque = None

-- a value is the bytes of a text
abbrev pub is_text : DataType → Bool
is_text types.VisibleString = true
is_text _ = false

abbrev pub is_boolean : DataType → Bool
is_boolean types.Boolean = true
is_boolean _ = false

abbrev pub is_unsigned32 : DataType → Bool
is_unsigned32 types.Unsigned32 = true
is_unsigned32 _ = false

-- a type that holds no value here
abbrev pub is_opaque : DataType → Bool
is_opaque types.Opaque = true
is_opaque _ = false

-- the data type that a number names
abbrev pub type_numbered : ℕ → DataType
type_numbered n =
    if n == 0x01 then types.Boolean else
    if n == 0x02 then types.Integer8 else
    if n == 0x03 then types.Integer16 else
    if n == 0x04 then types.Integer32 else
    if n == 0x05 then types.Unsigned8 else
    if n == 0x06 then types.Unsigned16 else
    if n == 0x07 then types.Unsigned32 else
    if n == 0x08 then types.Real32 else
    if n == 0x09 then types.VisibleString else
    if n == 0x0A then types.OctetString else
    if n == 0x0F then types.Domain else
    if n == 0x11 then types.Real64 else
    if n == 0x15 then types.Integer64 else
    if n == 0x1B then types.Unsigned64 else types.Opaque

abbrev pub is_readable : Access → Bool
is_readable accesses.WriteOnly = false
is_readable _ = true

abbrev pub is_writable : Access → Bool
is_writable accesses.ReadOnly = false
is_writable accesses.Constant = false
is_writable _ = true
