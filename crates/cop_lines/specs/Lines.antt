-- The lines of a log, as `candump -L` and `candump -l` write them: "(1436509052.249713) can0 181#0011223344556677".
use Rattle.std.specs.Prelude.{ℕ, ◌+◌, ◌-◌, ◌*◌, ◌/◌, ◌^◌, Bool, not, ◌&&◌, ◌||◌, List, length, take, drop, slice_index, codes, nat_lt, ◌==◌, if◌then◌else◌, Option, Some, None, Result, Ok, Err}
use Rattle.std.specs.Str.{bytes_eq}
use Rattle.hex.specs.Hex.{decode_of}
use Rattle.hex.specs.declared.error.FromHexError.{FromHexError}
use Rattle.cop_table.specs.Reading.{◌>>=◌}
use Rattle.cop_lines.specs.Words.{front, back}
use Rattle.cop_lines.specs.Numbers.{or_fault, moment, number_in, hexadecimal_from, content_with, message_of}
use Rattle.cop_lines.specs.declared.entries.Content.{Content}
use Rattle.cop_lines.specs.declared.entries.Entry.{Entry}
use Rattle.cop_lines.specs.declared.entries.Message.{Message}
use Rattle.cop_lines.specs.declared.faults.LineFault.{LineFault}
use Rattle.cop_lines.specs.declared.faults.LineFault.TheVariants as fault

abbrev pub with_micros : ℕ → List ℕ → Result ℕ LineFault
with_micros s text = number_in 6 text >>= (λ us. moment (s * 1000000 + us))

abbrev pub is_framed : List ℕ → Bool
is_framed text = (slice_index text 0 == 40) && ((slice_index text (length text - 8) == 46) && (slice_index text (length text - 1) == 41))

-- the digits between the first byte and the point, and six after it
abbrev pub numbers_in : List ℕ → Result ℕ LineFault
numbers_in text = number_in 14 (take (length text - 8 - 1) (drop 1 text)) >>= (λ s. with_micros s (take 6 (drop (length text - 7) text)))

-- "(", digits of seconds, ".", six digits of microseconds, ")"
unfoldable pub stamp_in : List ℕ → Result ℕ LineFault
stamp_in text =
    if nat_lt (length text) 10 then Err fault.Stamp else
    if not (is_framed text) then Err fault.Stamp else
    numbers_in text

-- three digits are an identifier of 11 bits; eight are one of 29 bits, to which bit 31 is put, or tell of an error (bit 29)
abbrev pub flagged : ℕ → ℕ
flagged n = if nat_lt n (2 ^ 29) then n + 2 ^ 31 else n

unfoldable pub id_in : List ℕ → Result ℕ LineFault
id_in text =
    if length text == 3 then or_fault fault.Identifier (hexadecimal_from 0 text) else
    if length text == 8 then (or_fault fault.Identifier (hexadecimal_from 0 text) >>= (λ n. Ok (flagged n))) else Err fault.Identifier

abbrev pub decoded : ℕ → Result (List ℕ) FromHexError → Result (Option Content) LineFault
decoded len (Ok bytes) = Ok (Some (content_with len bytes))
decoded len (Err e) = Err fault.Data

-- "R" and what follows is a remote frame, with no data; else there are up to 8 pairs of hexadecimal digits
unfoldable pub pairs_in : List ℕ → Result (Option Content) LineFault
pairs_in text =
    if nat_lt 0 (length text) && (slice_index text 0 == 82) then Ok None else
    if nat_lt 16 (length text) then Err fault.Data else decoded (length text / 2) (decode_of text)

-- identifier, "#", data
abbrev pub frame_in : ℕ → List ℕ → Result Message LineFault
frame_in at text = id_in (front 35 text) >>= (λ id. pairs_in (back 35 text) >>= (λ content. Ok (message_of at id content)))

-- nothing, or the direction
abbrev pub is_end : List ℕ → Bool
is_end text = (length text == 0) || (bytes_eq text (codes "R") || bytes_eq text (codes "T"))

abbrev pub logged : ℕ → List ℕ → Result Message LineFault
logged at text = if is_end (back 32 text) then frame_in at (front 32 text) else Err fault.Form

-- stamp, channel, frame and maybe a direction, with a blank between them
unfoldable pub logged_in : List ℕ → Result Message LineFault
logged_in line = stamp_in (front 32 line) >>= (λ at. logged at (back 32 (back 32 line)))

abbrev pub of_channel : Bool → Entry → Option Entry
of_channel b e = if b then Some e else None

-- the entry of a line, or nothing where the channel is another one
unfoldable pub line_in : List ℕ → List ℕ → Result (Option Entry) LineFault
line_in channel line = logged_in line >>= (λ m. Ok (of_channel (bytes_eq (front 32 (back 32 line)) channel) m.entry))
