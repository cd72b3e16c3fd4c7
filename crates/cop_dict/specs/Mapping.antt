-- What PDO mappings mean (CiA 301, "PDO mapping"): which objects, in which order, and which may not be mapped.
use Rattle.std.specs.Prelude.{ℕ, zero, suc, ◌+◌, ◌/◌, ◌%◌, ◌^◌, Bool, false, ◌&&◌, List, [], ◌∷◌, sum_by, ◌==◌, nat_lt, nat_le, if◌then◌else◌, Option, Some, None, option_and_then, Result, Ok, Err}
use Rattle.std.specs.Option.{option_map_or}
use Rattle.cop_eds.specs.declared.description.Access.{Access}
use Rattle.cop_dict.specs.declared.mapping.Direction.{Direction}
use Rattle.cop_dict.specs.declared.mapping.Direction.TheVariants as directions
use Rattle.cop_dict.specs.declared.mapping.Mapped.{Mapped}
use Rattle.cop_dict.specs.declared.mapping.MappingFault.{MappingFault}
use Rattle.cop_dict.specs.declared.mapping.MappingFault.TheVariants as faults
use Rattle.cop_dict.specs.Types.{bits_of, is_readable, is_writable, type_numbered}
use Rattle.cop_dict.specs.Find.{Entry, unsigned32_of, entry_at}

abbrev pub is_between : ℕ → ℕ → ℕ → Bool
is_between low high n = nat_le low n && nat_le n high

-- the direction of the PDOs whose mapping records stand there
abbrev pub direction_of : ℕ → Direction
direction_of record_index = if nat_lt record_index 0x1800 then directions.Receive else directions.Transmit

-- the fields of a mapping entry: index, sub, and length in bits
abbrev pub fields_of : ℕ → Mapped
fields_of n = record { index = n / 2 ^ 16; sub = n / 2 ^ 8 % 2 ^ 8; bits = n % 2 ^ 8 }

-- a value of the type has that many bits in a PDO
abbrev pub has_bits : ℕ → Option ℕ → Bool
has_bits bits width = option_map_or (λ width. width == bits) width false

-- bits of a received PDO that go nowhere: a data type from BOOLEAN to UNSIGNED32 stands for the object
abbrev pub is_dummy : Direction → Mapped → Bool
is_dummy directions.Receive mapped =
    is_between 1 7 mapped.index && (mapped.sub == 0) && has_bits mapped.bits (bits_of (type_numbered mapped.index))
is_dummy directions.Transmit mapped = false

-- a PDO of this direction may move the object's value
abbrev pub can_move : Direction → Access → Bool
can_move directions.Receive access = is_writable access
can_move directions.Transmit access = is_readable access

abbrev pub can_map : Direction → Mapped → Entry → Bool
can_map direction mapped entry =
    entry.description.is_mappable && has_bits mapped.bits (bits_of entry.description.data_type) && can_move direction entry.description.access

-- the object that is there, where it may be mapped so
abbrev pub mapped_object : Direction → Mapped → Option Entry → Result Mapped MappingFault
mapped_object direction mapped None = Err faults.NoObject
mapped_object direction mapped (Some entry) = if can_map direction mapped entry then Ok mapped else Err faults.NotMappable

abbrev pub mapped_by : List Entry → Direction → Mapped → Result Mapped MappingFault
mapped_by dict direction mapped =
    if is_dummy direction mapped then Ok mapped else mapped_object direction mapped (entry_at dict mapped.index mapped.sub)

-- what a mapping entry says, where it is an UNSIGNED32
abbrev pub mapped_number : List Entry → Direction → Option ℕ → Result Mapped MappingFault
mapped_number dict direction None = Err faults.Absent
mapped_number dict direction (Some n) = mapped_by dict direction (fields_of n)

-- what the entry of a mapping record at a sub says
unfoldable pub mapped_at : List Entry → ℕ → ℕ → Result Mapped MappingFault
mapped_at dict record_index sub =
    mapped_number dict (direction_of record_index) (option_and_then unsigned32_of (entry_at dict record_index sub))

infixl 10 ◌>>=◌
abbrev pub ◌>>=◌ : {A B : Type 0} → Result A MappingFault → (A → Result B MappingFault) → Result B MappingFault
(Ok x) >>= f = f x
(Err e) >>= f = Err e

-- what so many entries from a sub on say, or the first fault
abbrev pub mapped_from : List Entry → ℕ → ℕ → ℕ → Result (List Mapped) MappingFault
mapped_from dict record_index sub zero = Ok []
mapped_from dict record_index sub (suc count) = do
  first ← mapped_at dict record_index sub
  rest ← mapped_from dict record_index (sub + 1) count
  Ok (first ∷ rest)

abbrev pub total_bits : List Mapped → ℕ
total_bits mapped = sum_by (λ m. m.bits) mapped

-- what the first so many entries of a mapping record say: at most 64, of at most 64 bits together
unfoldable pub layout : List Entry → ℕ → ℕ → Result (List Mapped) MappingFault
layout dict record_index count =
    if nat_lt 64 count then Err faults.TooLong else
    mapped_from dict record_index 1 count >>= λ mapped.
    if nat_lt 64 (total_bits mapped) then Err faults.TooLong else Ok mapped

-- how many bits they are
abbrev pub layout_bits : List Entry → ℕ → ℕ → Result ℕ MappingFault
layout_bits dict record_index count = layout dict record_index count >>= λ mapped. Ok (total_bits mapped)
