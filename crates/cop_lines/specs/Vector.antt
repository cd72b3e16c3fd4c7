-- The lines of a log in Vector's form .asc, of classical CAN: "   0.016132 1  181             Rx   d 8 00 11 22 33 44 55 66 77".
use Rattle.std.specs.Prelude.{ℕ, ◌+◌, ◌-◌, ◌/◌, ◌%◌, Bool, not, ◌||◌, List, length, take, slice_index, codes, is_some, ◌==◌, if◌then◌else◌, Option, Some, None, Result, Ok, Err}
use Rattle.std.specs.Str.{bytes_eq}
use Rattle.cop_table.specs.Numbers.{number_of}
use Rattle.cop_table.specs.Reading.{◌>>=◌}
use Rattle.cop_lines.specs.Words.{word, after, field, begins}
use Rattle.cop_lines.specs.Numbers.{hexadecimal_id, id_digits, short_id, long_id, len_in, content_in, message_of, error_frame}
use Rattle.cop_lines.specs.declared.entries.Content.{Content}
use Rattle.cop_lines.specs.declared.entries.Message.{Message}
use Rattle.cop_lines.specs.declared.forms.Form.{Form}
use Rattle.cop_lines.specs.declared.forms.Form.TheVariants.{Vector}
use Rattle.cop_lines.specs.declared.numbers.Base.{Base}
use Rattle.cop_lines.specs.declared.numbers.Base.TheVariants.{Hexadecimal, Decimal}
use Rattle.cop_lines.specs.declared.faults.LineFault.{LineFault}
use Rattle.cop_lines.specs.declared.faults.LineFault.TheVariants as fault

-- "base hex  timestamps absolute": the digits of identifiers and bytes, and whether a stamp is the distance from the event before
unfoldable pub base_in : List ℕ → Result Form LineFault
base_in line =
    if bytes_eq (field 1 line) (codes "hex") then Ok (Vector Hexadecimal (bytes_eq (field 3 line) (codes "relative"))) else
    if bytes_eq (field 1 line) (codes "dec") then Ok (Vector Decimal (bytes_eq (field 3 line) (codes "relative"))) else Err fault.Form

-- the other lines that are no events: "date ..", "internal events logged", "no internal events logged", "Begin Triggerblock ..",
-- "End TriggerBlock", and comments
abbrev pub is_header : List ℕ → Bool
is_header text =
    bytes_eq text (codes "date") || (bytes_eq text (codes "internal") || (bytes_eq text (codes "no") || (bytes_eq text (codes "Begin") || (bytes_eq text (codes "End") || begins (codes "//") text))))

-- x stands behind an identifier of 29 bits
abbrev pub is_long : List ℕ → Bool
is_long text = slice_index text (length text - 1) == 120

unfoldable pub id_in : Base → List ℕ → Result ℕ LineFault
id_in base text =
    if length text == 0 then Err fault.Identifier else
    if is_long text then (id_digits base (take (length text - 1) text) >>= long_id) else
    (id_digits base text >>= short_id)

-- the direction of a frame, which other events have not
abbrev pub is_direction : List ℕ → Bool
is_direction text = bytes_eq text (codes "Rx") || bytes_eq text (codes "Tx")

-- the request to send a frame, which is no transfer: that has a line of its own, with Tx
abbrev pub is_request : List ℕ → Bool
is_request text = bytes_eq text (codes "TxRq")

-- length and bytes
unfoldable pub bytes_in : Base → List ℕ → Result (Option Content) LineFault
bytes_in base text = len_in (word text) >>= (λ len. content_in base len (after 1 text) >>= (λ content. Ok (Some content)))

-- "r" is a remote frame; "d", length, bytes
unfoldable pub data_in : Base → List ℕ → Result (Option Content) LineFault
data_in base text =
    if bytes_eq (word text) (codes "r") then Ok None else
    if bytes_eq (word text) (codes "d") then bytes_in base (after 1 text) else Err fault.Form

-- identifier, direction, data
unfoldable pub frame_in : Base → ℕ → List ℕ → Result Message LineFault
frame_in base at text = id_in base (word text) >>= (λ id. data_in base (after 2 text) >>= (λ content. Ok (message_of at id content)))

-- an event with no direction is none of a frame, and is refused where it begins with an identifier
abbrev pub without_direction : Result ℕ LineFault → Result (Option Message) LineFault
without_direction (Ok id) = Err fault.Form
without_direction (Err f) = Ok None

-- behind the channel: an error frame, the request to send a frame, a frame if the second word is a direction, or one of the many events that are
-- no frames
unfoldable pub on_channel : Base → ℕ → List ℕ → Result (Option Message) LineFault
on_channel base at text =
    if bytes_eq (word text) (codes "ErrorFrame") then Ok (Some (error_frame at)) else
    if is_request (field 1 text) then Ok None else
    if is_direction (field 1 text) then (frame_in base at text >>= (λ message. Ok (Some message))) else
    without_direction (id_in base (word text))

-- Hardware of CAN FD writes each frame in a line of its own form: "CANFD", channel, direction, identifier, perhaps a name, BRS and ESI (0 or 1),
-- DLC, length, bytes, duration, bits, flags. Bit 12 of the flags says that it is a CAN FD frame, which is refused, and bit 4 that it is a remote one.
abbrev pub is_bit : List ℕ → Bool
is_bit text = bytes_eq text (codes "0") || bytes_eq text (codes "1")

-- from BRS on
unfoldable pub from_bits : List ℕ → List ℕ
from_bits text = if is_bit (field 1 text) then after 1 text else after 2 text

-- classical frames have at most 8 bytes
abbrev pub or_form : Result ℕ LineFault → Result ℕ LineFault
or_form (Ok n) = Ok n
or_form (Err f) = Err fault.Form

-- the flags behind so many bytes
unfoldable pub flags_in : ℕ → List ℕ → Result ℕ LineFault
flags_in len text = or_form (hexadecimal_id (field (len + 6) text))

abbrev pub has_bit : ℕ → ℕ → Bool
has_bit flags power = flags / power % 2 == 1

unfoldable pub marked_in : Base → ℕ → ℕ → List ℕ → Result (Option Content) LineFault
marked_in base len flags text =
    if has_bit flags 4096 then Err fault.Form else
    if has_bit flags 16 then Ok None else (content_in base len (after 4 text) >>= (λ content. Ok (Some content)))

unfoldable pub long_data_in : Base → List ℕ → Result (Option Content) LineFault
long_data_in base text = or_form (len_in (field 3 text)) >>= (λ len. flags_in len text >>= (λ flags. marked_in base len flags text))

-- identifier and data
unfoldable pub long_frame_in : Base → ℕ → List ℕ → Result Message LineFault
long_frame_in base at text = id_in base (word text) >>= (λ id. long_data_in base (from_bits text) >>= (λ content. Ok (message_of at id content)))

-- behind the channel: a direction, and a frame or an error frame
unfoldable pub long_event_in : Base → ℕ → List ℕ → Result (Option Message) LineFault
long_event_in base at text =
    if is_request (word text) then Ok None else
    if not (is_direction (word text)) then Err fault.Form else
    if bytes_eq (field 1 text) (codes "ErrorFrame") then Ok (Some (error_frame at)) else
    (long_frame_in base at (after 1 text) >>= (λ message. Ok (Some message)))

abbrev pub is_long_form : List ℕ → Bool
is_long_form text = bytes_eq text (codes "CANFD")

-- the channel of a line
unfoldable pub bus_in : List ℕ → List ℕ
bus_in line = if is_long_form (field 1 line) then field 2 line else field 1 line

-- What stands behind the stamp. An event with no channel in front is none of a classical bus.
unfoldable pub event_in : Base → ℕ → List ℕ → Result (Option Message) LineFault
event_in base at text =
    if is_long_form (word text) then long_event_in base at (after 2 text) else
    if is_some (number_of 3 (word text)) then on_channel base at (after 1 text) else Ok None
