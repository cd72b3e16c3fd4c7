-- Payloads as lists of bits (CiA 301, "PDO mapping parameter record"): each mapped object's bits in the order of the
-- entries, the least significant first.
use Rattle.std.specs.Prelude.{◌≡◌, ℕ, zero, suc, ◌+◌, ◌*◌, ◌/◌, ◌%◌, ◌^◌, ◌<◌, Bool, false, not, ◌&&◌, ◌||◌, All, IfSome, option_map, List, [], ◌∷◌, ◌++◌, take, drop, length, ◌==◌, if◌then◌else◌, Option}
use Rattle.std.specs.Option.{option_map_or}
use Rattle.cop_dict.specs.declared.mapping.Direction.{Direction}
use Rattle.cop_dict.specs.declared.mapping.Mapped.{Mapped}
use Rattle.cop_dict.specs.Number.{number}
use Rattle.cop_dict.specs.Find.{Entry, entry_at}
use Rattle.cop_dict.specs.Dict.{with_value}
use Rattle.cop_dict.specs.Mapping.{is_dummy}
use Rattle.cop_pdo.specs.Payload.{Layout}

-- the lowest n bits of a number
unfoldable pub bits_of_number : ℕ → ℕ → List Bool
bits_of_number zero value = []
bits_of_number (suc n) value = (value % 2 == 1) ∷ bits_of_number n (value / 2)

-- the number that bits are
unfoldable pub number_of_bits : List Bool → ℕ
number_of_bits [] = 0
number_of_bits (bit ∷ bits) = (if bit then 1 else 0) + 2 * number_of_bits bits

-- so many bytes of eight bits each, 0 past the last bit
unfoldable pub bytes_of_bits : ℕ → List Bool → List ℕ
bytes_of_bits zero bits = []
bytes_of_bits (suc n) bits = number_of_bits (take 8 bits) ∷ bytes_of_bits n (drop 8 bits)

-- the bits of bytes, the lowest bit of the first byte first
abbrev pub bits_of_bytes : List ℕ → List Bool
bits_of_bytes bytes = bits_of_number (8 * length bytes) (number bytes)

-- the value that a mapped object has; bits that go nowhere are 0
abbrev pub mapped_number : List Entry → Direction → Mapped → ℕ
mapped_number dict direction mapped =
    if is_dummy direction mapped then 0 else option_map_or (λ entry. number entry.value) (entry_at dict mapped.index mapped.sub) 0

-- the payload of entries
abbrev pub bits_of_entries : List Entry → Direction → List Mapped → List Bool
bits_of_entries dict direction [] = []
bits_of_entries dict direction (mapped ∷ rest) = bits_of_number mapped.bits (mapped_number dict direction mapped) ++ bits_of_entries dict direction rest

-- the payload of a PDO
abbrev pub payload_bits : List Entry → Layout → List Bool
payload_bits dict layout = bits_of_entries dict layout.direction layout.entries

-- how many bytes hold so many bits
abbrev pub bytes_for : ℕ → ℕ
bytes_for bits = (bits + 7) / 8

-- a dictionary whose mapped object has bits as its value; bits that go nowhere change nothing
abbrev pub received : List Entry → Direction → Mapped → List Bool → List Entry
received dict direction mapped bits =
    if is_dummy direction mapped then dict else with_value mapped.index mapped.sub (bytes_of_bits (bytes_for mapped.bits) bits) dict

-- a dictionary whose mapped objects have the bits of a payload, one after the other
abbrev pub unpacked : List Entry → Direction → List Mapped → List Bool → List Entry
unpacked dict direction [] bits = dict
unpacked dict direction (mapped ∷ rest) bits =
    unpacked (received dict direction mapped (take mapped.bits bits)) direction rest (drop mapped.bits bits)

-- an object is one of those mapped, other than as bits that go nowhere
abbrev pub is_mapped : Direction → List Mapped → ℕ → ℕ → Bool
is_mapped direction [] index sub = false
is_mapped direction (mapped ∷ rest) index sub =
    (not (is_dummy direction mapped) && ((mapped.index == index) && (mapped.sub == sub))) || is_mapped direction rest index sub

-- the value of an object, if it is there
abbrev pub value_at : List Entry → ℕ → ℕ → Option (List ℕ)
value_at dict index sub = option_map (λ entry. entry.value) (entry_at dict index sub)

-- a value is as many bytes as hold its bits, and its number has no more bits
pub record IsProper (bits : ℕ) (value : List ℕ) : Type 0 where
  pub width : length value ≡ bytes_for bits
  pub bytes : All (λ byte. byte < 256) value
  pub small : number value < 2 ^ bits

-- each mapped object has such a value
abbrev pub HasProperValues : List Entry → Layout → Type 0
HasProperValues dict layout =
    All (λ mapped. is_dummy layout.direction mapped ≡ false → IfSome (value_at dict mapped.index mapped.sub) (IsProper mapped.bits)) layout.entries
