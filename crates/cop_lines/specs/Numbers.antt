-- Numbers in a line: stamps, identifiers, lengths and bytes.
use Rattle.std.specs.Prelude.{ℕ, ◌+◌, ◌-◌, ◌*◌, ◌/◌, ◌^◌, bit_or, ◌&&◌, List, [], ◌∷◌, ◌++◌, suc, zero, length, slice_index, replicate, nat_lt, nat_le, ◌==◌, if◌then◌else◌, Option, Some, None, Result, Ok, Err}
use Rattle.std.specs.Char.{is_digit, digit_value}
use Rattle.cop_table.specs.Numbers.{number_of}
use Rattle.cop_table.specs.Reading.{◌>>=◌}
use Rattle.cop_lines.specs.Words.{front, back, word, after_word}
use Rattle.cop_lines.specs.declared.entries.Content.{Content}
use Rattle.cop_lines.specs.declared.entries.Message.{Message}
use Rattle.cop_lines.specs.declared.numbers.Base.{Base}
use Rattle.cop_lines.specs.declared.numbers.Base.TheVariants.{Decimal, Hexadecimal}
use Rattle.cop_lines.specs.declared.faults.LineFault.{LineFault}
use Rattle.cop_lines.specs.declared.faults.LineFault.TheVariants as fault

abbrev pub or_fault : {A : Type 0} → LineFault → Option A → Result A LineFault
or_fault f None = Err f
or_fault f (Some x) = Ok x

-- a moment that fits 64 bits
abbrev pub moment : ℕ → Result ℕ LineFault
moment at = if nat_lt at (2 ^ 64) then Ok at else Err fault.Stamp

-- 1 to `most` decimal digits
abbrev pub number_in : ℕ → List ℕ → Result ℕ LineFault
number_in most text = or_fault fault.Stamp (number_of most text)

-- up to nine digits behind a point, of which so many count
unfoldable pub part_in : ℕ → List ℕ → Result ℕ LineFault
part_in places text =
    if length text == 0 then Ok 0 else
    if nat_lt 9 (length text) then Err fault.Stamp else
    (number_in 9 text >>= (λ n. moment (n * 10 ^ places / 10 ^ length text)))

-- a number with a point, or with none, in units of its last place that counts
unfoldable pub decimal_in : ℕ → List ℕ → Result ℕ LineFault
decimal_in places text = number_in 14 (front 46 text) >>= (λ whole. part_in places (back 46 text) >>= (λ part. moment (whole * 10 ^ places + part)))

-- hexadecimal digits, after a number
abbrev pub hexadecimal_from : ℕ → List ℕ → Option ℕ
hexadecimal_from n [] = Some n
hexadecimal_from n (c ∷ cs) = if is_digit c 16 then hexadecimal_from (n * 16 + digit_value c) cs else None

-- 1 to 8 hexadecimal digits, or 1 to 9 decimal ones
abbrev pub hexadecimal_id : List ℕ → Result ℕ LineFault
hexadecimal_id text =
    if length text == 0 then Err fault.Identifier else
    if nat_lt 8 (length text) then Err fault.Identifier else or_fault fault.Identifier (hexadecimal_from 0 text)

unfoldable pub id_digits : Base → List ℕ → Result ℕ LineFault
id_digits Hexadecimal text = hexadecimal_id text
id_digits Decimal text = or_fault fault.Identifier (number_of 9 text)

-- an identifier of 11 bits; one of 29 bits, to which bit 31 is put
abbrev pub short_id : ℕ → Result ℕ LineFault
short_id n = if nat_lt n 2048 then Ok n else Err fault.Identifier

abbrev pub long_id : ℕ → Result ℕ LineFault
long_id n = if nat_lt n (2 ^ 29) then Ok (n + 2 ^ 31) else Err fault.Identifier

-- a number below 256
abbrev pub small : ℕ → Result ℕ LineFault
small n = if nat_lt n 256 then Ok n else Err fault.Data

-- a byte: two hexadecimal digits, or 1 to 3 decimal ones
abbrev pub hexadecimal_byte : List ℕ → Result ℕ LineFault
hexadecimal_byte text = if length text == 2 then (or_fault fault.Data (hexadecimal_from 0 text) >>= small) else Err fault.Data

unfoldable pub byte_in : Base → List ℕ → Result ℕ LineFault
byte_in Hexadecimal text = hexadecimal_byte text
byte_in Decimal text = or_fault fault.Data (number_of 3 text) >>= small

-- a length: one digit from 0 to 8
abbrev pub len_of : ℕ → Result ℕ LineFault
len_of c = if nat_le 48 c && nat_le c 56 then Ok (c - 48) else Err fault.Data

unfoldable pub len_in : List ℕ → Result ℕ LineFault
len_in text = if length text == 1 then len_of (slice_index text 0) else Err fault.Data

-- so many words that are bytes
abbrev pub bytes_in : Base → ℕ → List ℕ → Result (List ℕ) LineFault
bytes_in base zero text = Ok []
bytes_in base (suc n) text = byte_in base (word text) >>= (λ b. bytes_in base n (after_word text) >>= (λ bs. Ok (b ∷ bs)))

-- the data bytes of a frame, and 0 behind them
abbrev pub content_with : ℕ → List ℕ → Content
content_with len bytes = record { body = bytes ++ replicate (8 - len) 0; len = len }

unfoldable pub content_in : Base → ℕ → List ℕ → Result Content LineFault
content_in base len text = bytes_in base len text >>= (λ bytes. Ok (content_with len bytes))

-- what is seen of a frame with data, of a remote frame, to whose identifier bit 30 is put, and of an error frame
abbrev pub message_of : ℕ → ℕ → Option Content → Message
message_of at id (Some content) = record { entry = record { line = 0; at = at; id = id; len = content.len }; body = content.body }
message_of at id None = record { entry = record { line = 0; at = at; id = bit_or id (2 ^ 30); len = 0 }; body = replicate 8 0 }

abbrev pub error_frame : ℕ → Message
error_frame at = record { entry = record { line = 0; at = at; id = 2 ^ 29; len = 0 }; body = replicate 8 0 }
