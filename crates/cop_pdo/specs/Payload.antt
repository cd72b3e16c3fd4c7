-- What a PDO moves (CiA 301, "PDO mapping parameter record").
use Rattle.std.specs.Prelude.{◌≡◌, ℕ, ◌+◌, ◌≤◌, Bool, true, false, not, ◌&&◌, ◌||◌, List, [], ◌∷◌, length, All, ◌==◌, nat_lt, if◌then◌else◌, Option, Some, None, option_and_then, is_some, Result, Ok, Err}
use Rattle.std.specs.Option.{option_map_or}
use Rattle.cop_dict.specs.declared.data_type.DataType.{DataType}
use Rattle.cop_dict.specs.declared.data_type.DataType.TheVariants as types
use Rattle.cop_dict.specs.declared.mapping.Direction.{Direction}
use Rattle.cop_dict.specs.declared.mapping.Direction.TheVariants as directions
use Rattle.cop_dict.specs.declared.mapping.Mapped.{Mapped}
use Rattle.cop_dict.specs.declared.mapping.MappingFault.{MappingFault}
use Rattle.cop_dict.specs.declared.mapping.MappingFault.TheVariants as faults
use Rattle.cop_dict.specs.Types.{bits_of}
use Rattle.cop_dict.specs.Number.{number}
use Rattle.cop_dict.specs.Find.{Entry, entry_at}
use Rattle.cop_dict.specs.Mapping.{◌>>=◌, has_bits, is_dummy, layout, total_bits}

-- the mapped objects of a PDO in the order of their entries, and which way it goes
pub record Layout : Type 0 where
  pub direction : Direction
  pub entries : List Mapped

-- the index of a PDO's communication record, and that of its mapping record; PDOs count from 1
abbrev pub communication_of : Direction → ℕ → ℕ
communication_of directions.Receive number = 0x13FF + number
communication_of directions.Transmit number = 0x17FF + number

abbrev pub mapping_of : Direction → ℕ → ℕ
mapping_of direction number = communication_of direction number + 0x200

-- the numbers of refused payloads
abbrev pub number_of : MappingFault → ℕ
number_of faults.Absent = 20
number_of faults.TooLong = 21
number_of faults.NoObject = 22
number_of faults.NotMappable = 23

abbrev pub is_unsigned8 : DataType → Bool
is_unsigned8 types.Unsigned8 = true
is_unsigned8 _ = false

-- the number that an UNSIGNED8 holds
abbrev pub unsigned8_of : Entry → Option ℕ
unsigned8_of entry = if is_unsigned8 entry.description.data_type then Some (number entry.value) else None

-- a count that is not 0
abbrev pub positive : Option ℕ → Result ℕ MappingFault
positive None = Err faults.Absent
positive (Some n) = if nat_lt 0 n then Ok n else Err faults.Absent

-- how many entries a mapping record has: an UNSIGNED8 at sub 0 that is not 0
abbrev pub count_by : Option Entry → Result ℕ MappingFault
count_by entry = positive (option_and_then unsigned8_of entry)

-- the mapped objects of a PDO, or the first rule that its records break: a record or its COB-ID is absent, the count,
-- each entry in turn, the bits together
unfoldable pub payload_of : List Entry → Direction → ℕ → Result (List Mapped) MappingFault
payload_of dict direction number =
    if not (is_some (entry_at dict (communication_of direction number) 1)) then Err faults.Absent
    else count_by (entry_at dict (mapping_of direction number) 0) >>= layout dict (mapping_of direction number)

-- a mapped object is there with the mapped width, or stands for bits that go nowhere
abbrev pub is_there : List Entry → Direction → Mapped → Bool
is_there dict direction mapped =
    is_dummy direction mapped || option_map_or (λ entry. has_bits mapped.bits (bits_of entry.description.data_type)) (entry_at dict mapped.index mapped.sub) false

-- each mapped object is there
abbrev pub HasObjects : List Entry → Layout → Type 0
HasObjects dict layout = All (λ mapped. is_there dict layout.direction mapped ≡ true) layout.entries

-- what a payload is seen as: its mapped objects
abbrev pub seen : Result Layout MappingFault → Result (List Mapped) MappingFault
seen (Ok layout) = Ok layout.entries
seen (Err fault) = Err fault

-- a PDO has at most 64 bits, and each of its objects one or more
pub record IsPayload (layout : Layout) : Type 0 where
  pub count : length layout.entries ≤ 64
  pub bits : total_bits layout.entries ≤ 64
  pub each : All (λ mapped. 1 ≤ mapped.bits) layout.entries

-- an entry with so many bits begins at a bit, where the entries begin at bit `at`
abbrev pub has_span : List Mapped → ℕ → ℕ → ℕ → Bool
has_span [] at first bits = false
has_span (mapped ∷ rest) at first bits = ((at == first) && (mapped.bits == bits)) || has_span rest (at + mapped.bits) first bits

-- each entry from bit `at` on that is no dummy has a sent entry with the same first bit and width
abbrev pub spans_match : List Mapped → Direction → List Mapped → ℕ → Bool
spans_match sent direction [] at = true
spans_match sent direction (mapped ∷ rest) at =
    (is_dummy direction mapped || has_span sent 0 at mapped.bits) && spans_match sent direction rest (at + mapped.bits)

-- what one PDO sends another can receive: as many bits, and the same spans
abbrev pub is_same_layout : Layout → Layout → Bool
is_same_layout sent received =
    (total_bits sent.entries == total_bits received.entries) && spans_match sent.entries received.direction received.entries 0
