-- What an adapter says by a line (the text protocol of Lawicel's CAN232).
use Rattle.std.specs.Prelude.{ℕ, ◌+◌, ◌-◌, ◌*◌, Bool, not, ◌&&◌, ◌||◌, List, ◌++◌, length, take, drop, replicate, slice_index, ◌==◌, nat_le, nat_lt, if◌then◌else◌, Option, Some, None, option_and_then, Result, Ok, Err}
use Rattle.std.specs.List.{list_all}
use Rattle.hex.specs.Hex.{hex_digit_value, is_hex_digit, decode_of}
use Rattle.hex.specs.declared.error.FromHexError.{FromHexError}
use Rattle.cop_sdo.specs.Message.{Message, message_of}
use Rattle.cop_slcan.specs.declared.meaning.Said.{Said}
use Rattle.cop_slcan.specs.declared.meaning.Said.TheVariants as said

-- what an adapter tells: a frame that was on the bus, a command that is done or refused, or something else
pub data Told : Type 0 where
  Heard : (frame : Message) → Told
  Done : Told
  Refused : Told
  Other : Told

-- what is said, as contracts see it
abbrev pub told_of : Said → Told
told_of (said.Heard frame) = Heard (message_of frame)
told_of said.Done = Done
told_of said.Refused = Refused
told_of said.Other = Other

-- an identifier of 11 bits, of three digits
abbrev pub id_in : ℕ → ℕ → ℕ → Option ℕ
id_in a b c = option_and_then (λ x. option_and_then (λ y. option_and_then (λ z. if nat_lt x 8 then Some (x * 256 + y * 16 + z) else None) (hex_digit_value c)) (hex_digit_value b)) (hex_digit_value a)

-- a length of 0 to 8
abbrev pub len_in : ℕ → Option ℕ
len_in c = if nat_le 48 c && nat_le c 56 then Some (c - 48) else None

-- nothing, or the four or eight digits of an adapter's clock
abbrev pub is_stamp : List ℕ → Bool
is_stamp text = (length text == 0) || (((length text == 4) || (length text == 8)) && list_all is_hex_digit text)

-- a frame of these data bytes; those after them are 0
abbrev pub frame_with : ℕ → ℕ → Result (List ℕ) FromHexError → Option Message
frame_with id len (Ok bytes) = Some (record { id = id; body = bytes ++ replicate (8 - length bytes) 0; len = len })
frame_with id len (Err e) = None

-- a frame of so many bytes, whose digits may be followed by a moment
abbrev pub framed : ℕ → ℕ → List ℕ → Option Message
framed id len text = if nat_lt (length text) (len * 2) || not (is_stamp (drop (len * 2) text)) then None else frame_with id len (decode_of (take (len * 2) text))

-- `t`, three digits of the identifier, the length, two digits for each byte, and a moment or nothing
abbrev pub frame_in : List ℕ → Option Message
frame_in line =
    if nat_lt (length line) 5 || not (slice_index line 0 == 116) then None
    else option_and_then (λ id. option_and_then (λ len. framed id len (drop 5 line)) (len_in (slice_index line 4))) (id_in (slice_index line 1) (slice_index line 2) (slice_index line 3))

-- an empty line, `z` or `Z`
abbrev pub is_done : List ℕ → Bool
is_done line = (length line == 0) || ((length line == 1) && ((slice_index line 0 == 122) || (slice_index line 0 == 90)))

-- a frame, or what else the line says
abbrev pub said_by : List ℕ → Option Message → Told
said_by line (Some frame) = Heard frame
said_by line None = if is_done line then Done else Other

-- what a line says that ends with CR
unfoldable pub meaning : List ℕ → Told
meaning line = said_by line (frame_in line)
