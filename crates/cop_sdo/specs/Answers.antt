-- The bytes that a server answers.
use Rattle.std.specs.Prelude.{ℕ, ◌+◌, ◌-◌, ◌*◌, ◌/◌, ◌%◌, Bool, List, [], ◌∷◌, length, slice_index, if◌then◌else◌}
use Rattle.cop_sdo.specs.declared.address.Address.{Address}
use Rattle.cop_sdo.specs.Message.{Message}

abbrev pub u32_bytes : ℕ → List ℕ
u32_bytes n = n % 256 ∷ n / 256 % 256 ∷ n / 65536 % 256 ∷ n / 16777216 % 256 ∷ []

-- a first byte, an address, and a number
abbrev pub body_of : ℕ → Address → ℕ → List ℕ
body_of first at number = first ∷ at.index % 256 ∷ at.index / 256 ∷ at.sub ∷ u32_bytes number

abbrev pub toggle_bit : Bool → ℕ
toggle_bit toggle = if toggle then 16 else 0

abbrev pub abort_body : Address → ℕ → List ℕ
abort_body at code = body_of 0x80 at code

abbrev pub download_answer : Address → List ℕ
download_answer at = body_of 0x60 at 0

abbrev pub segment_answer : Bool → List ℕ
segment_answer toggle = (0x20 + toggle_bit toggle) ∷ 0 ∷ 0 ∷ 0 ∷ 0 ∷ 0 ∷ 0 ∷ 0 ∷ []

-- the size of an upload that comes in segments
abbrev pub size_answer : Address → ℕ → List ℕ
size_answer at size = body_of 0x41 at size

-- a value of 1 to 4 bytes, with zeros behind it
abbrev pub value_body : ℕ → Address → List ℕ → List ℕ
value_body first at bytes =
    (first + 4 * (4 - length bytes)) ∷ at.index % 256 ∷ at.index / 256 ∷ at.sub
    ∷ slice_index bytes 0 ∷ slice_index bytes 1 ∷ slice_index bytes 2 ∷ slice_index bytes 3 ∷ []

abbrev pub value_answer : Address → List ℕ → List ℕ
value_answer at bytes = value_body 0x43 at bytes

-- a segment of at most 7 bytes, with zeros behind them
abbrev pub upload_segment : Bool → List ℕ → Bool → List ℕ
upload_segment toggle bytes is_last =
    (toggle_bit toggle + 2 * (7 - length bytes) + (if is_last then 1 else 0))
    ∷ slice_index bytes 0 ∷ slice_index bytes 1 ∷ slice_index bytes 2 ∷ slice_index bytes 3
    ∷ slice_index bytes 4 ∷ slice_index bytes 5 ∷ slice_index bytes 6 ∷ []

-- a body from the server of a node
abbrev pub reply : ℕ → List ℕ → Message
reply node body = record { id = 0x580 + node; body = body; len = 8 }
