-- The lines of a log, as candump of can-utils writes them in columns, with the stamps of -ta, -tz or -td:
-- " (1436509052.249713)  can0  181   [8]  00 11 22 33 44 55 66 77". With -x the direction and two flags stand before the identifier,
-- and with -a the data stand once more behind them, as characters in quotes.
use Rattle.std.specs.Prelude.{ℕ, Bool, ◌&&◌, ◌||◌, List, length, slice_index, codes, ◌==◌, if◌then◌else◌, Option, Some, None, Result, Ok, Err}
use Rattle.std.specs.Str.{bytes_eq}
use Rattle.cop_table.specs.Reading.{◌>>=◌, unless}
use Rattle.cop_lines.specs.Words.{word, after, field, begins}
use Rattle.cop_lines.specs.Numbers.{len_of, content_in, message_of}
use Rattle.cop_lines.specs.Lines.{id_in}
use Rattle.cop_lines.specs.declared.entries.Content.{Content}
use Rattle.cop_lines.specs.declared.entries.Message.{Message}
use Rattle.cop_lines.specs.declared.numbers.Base.TheVariants.{Hexadecimal}
use Rattle.cop_lines.specs.declared.faults.LineFault.{LineFault}
use Rattle.cop_lines.specs.declared.faults.LineFault.TheVariants as fault

-- a direction
abbrev pub is_direction : List ℕ → Bool
is_direction text = bytes_eq text (codes "RX") || bytes_eq text (codes "TX")

-- from the identifier on: what stands behind the stamp and the channel, and a direction and its two flags where they are there
unfoldable pub from_id : List ℕ → List ℕ
from_id line = if is_direction (field 2 line) then after 5 line else after 2 line

-- "[8]"; a CAN FD frame has two digits
unfoldable pub bracketed : List ℕ → Result ℕ LineFault
bracketed text =
    if (length text == 3) && ((slice_index text 0 == 91) && (slice_index text 2 == 93)) then len_of (slice_index text 1) else Err fault.Form

-- behind the data stand nothing, the word of error frames, or the data as characters
abbrev pub is_tail : List ℕ → Bool
is_tail text = (length text == 0) || (bytes_eq text (codes "ERRORFRAME") || begins (codes "'") text)

abbrev pub bytes_with_tail : ℕ → List ℕ → Result (Option Content) LineFault
bytes_with_tail len text = content_in Hexadecimal len text >>= (λ content. unless (is_tail (field len text)) fault.Data (Some content))

-- "remote request", or so many bytes
unfoldable pub data_in : ℕ → List ℕ → Result (Option Content) LineFault
data_in len text = if bytes_eq (word text) (codes "remote") then Ok None else bytes_with_tail len text

-- identifier, length, data
unfoldable pub frame_in : ℕ → List ℕ → Result Message LineFault
frame_in at text =
    id_in (word text) >>= (λ id. bracketed (field 1 text) >>= (λ len. data_in len (after 2 text) >>= (λ content. Ok (message_of at id content))))
