-- The lines of a log in PEAK's form .trc: "  1)  1059.9  Rx  0300  7  00 00 00 00 04 00 00" and its kin. Lines that begin with ";" are
-- comments, two of which say how the columns stand.
use Rattle.std.specs.Prelude.{ℕ, ◌/◌, Bool, ◌||◌, List, length, drop, codes, nat_lt, nat_le, if◌then◌else◌, Option, Some, None, Result, Ok, Err}
use Rattle.std.specs.Str.{bytes_eq}
use Rattle.cop_table.specs.Reading.{◌>>=◌}
use Rattle.cop_lines.specs.Words.{place_in, word, after_word, after, field, begins}
use Rattle.cop_lines.specs.Numbers.{or_fault, decimal_in, id_digits, short_id, long_id, len_in, content_in, message_of, error_frame}
use Rattle.cop_lines.specs.declared.entries.Content.{Content}
use Rattle.cop_lines.specs.declared.entries.Message.{Message}
use Rattle.cop_lines.specs.declared.forms.Layout.{Layout}
use Rattle.cop_lines.specs.declared.numbers.Base.TheVariants.{Hexadecimal}
use Rattle.cop_lines.specs.declared.peak.Kind.{Kind}
use Rattle.cop_lines.specs.declared.peak.Kind.TheVariants.{Data, Remote, Error, Status}
use Rattle.cop_lines.specs.declared.faults.LineFault.{LineFault}
use Rattle.cop_lines.specs.declared.faults.LineFault.TheVariants as fault

-- the number of the column of a letter, where letters stand with commas between them, as in "N,O,T,B,I,d,R,L,D"
unfoldable pub column_of : ℕ → List ℕ → Option ℕ
column_of letter text = if nat_lt (place_in letter text) (length text) then Some (place_in letter text / 2) else None

abbrev pub or_column : Option ℕ → Option ℕ → Option ℕ
or_column (Some n) other = Some n
or_column None other = other

-- the columns of O, the stamp; T, the kind; B, the bus; I, the identifier; and of the length, L or l
unfoldable pub layout_in : List ℕ → Result Layout LineFault
layout_in text =
    or_fault fault.Form (column_of 79 text) >>= (λ stamp.
    or_fault fault.Form (column_of 73 text) >>= (λ id.
    or_fault fault.Form (or_column (column_of 76 text) (column_of 108 text)) >>= (λ len.
    Ok (record { stamp = stamp; kind = column_of 84 text; bus = column_of 66 text; id = id; len = len }))))

-- the layouts of the versions: number, stamp, and then what there is
abbrev pub first_layout : Layout
first_layout = record { stamp = 1; kind = None; bus = None; id = 2; len = 3 }

abbrev pub layout_with : ℕ → Option ℕ → ℕ → ℕ → Layout
layout_with kind bus id len = record { stamp = 1; kind = Some kind; bus = bus; id = id; len = len }

unfoldable pub layout_of_version : List ℕ → Result Layout LineFault
layout_of_version text =
    if bytes_eq text (codes "1.0") then Ok first_layout else
    if bytes_eq text (codes "1.1") then Ok (layout_with 2 None 3 4) else
    if bytes_eq text (codes "1.2") then Ok (layout_with 3 (Some 2) 4 5) else
    if bytes_eq text (codes "1.3") then Ok (layout_with 3 (Some 2) 4 6) else
    if bytes_eq text (codes "2.0") then Ok (layout_with 2 None 3 5) else
    if bytes_eq text (codes "2.1") then Ok (layout_with 2 (Some 3) 4 7) else Err fault.Form

-- what a line that begins with ";" says of the columns
unfoldable pub header_in : Layout → List ℕ → Result Layout LineFault
header_in layout text =
    if begins (codes ";$FILEVERSION=") text then layout_of_version (drop 14 text) else
    if begins (codes ";$COLUMNS=") text then layout_in (drop 10 text) else Ok layout

abbrev pub is_data : List ℕ → Bool
is_data text = bytes_eq text (codes "DT") || (bytes_eq text (codes "Rx") || bytes_eq text (codes "Tx"))

abbrev pub is_error : List ℕ → Bool
is_error text = bytes_eq text (codes "ER") || bytes_eq text (codes "Error")

abbrev pub is_status : List ℕ → Bool
is_status text = bytes_eq text (codes "ST") || (bytes_eq text (codes "EC") || (bytes_eq text (codes "EV") || bytes_eq text (codes "Warng")))

-- what a line tells of: a data frame, a remote frame, an error frame, or the adapter's state or counters; any other is refused, as a CAN FD frame
unfoldable pub kind_of : List ℕ → Result Kind LineFault
kind_of text =
    if is_data text then Ok Data else
    if bytes_eq text (codes "RR") then Ok Remote else
    if is_error text then Ok Error else
    if is_status text then Ok Status else Err fault.Form

-- by the word of its column; with no column for it, the identifier of eight F tells of the adapter's state
abbrev pub kind_by : Option ℕ → List ℕ → List ℕ → Result Kind LineFault
kind_by (Some n) id line = kind_of (field n line)
kind_by None id line = if bytes_eq id (codes "FFFFFFFF") then Ok Status else Ok Data

unfoldable pub kind_in : Layout → List ℕ → Result Kind LineFault
kind_in layout line = kind_by layout.kind (field layout.id line) line

-- an identifier of up to four digits has 11 bits, a longer one 29
unfoldable pub id_in : List ℕ → Result ℕ LineFault
id_in text = if nat_le (length text) 4 then (id_digits Hexadecimal text >>= short_id) else (id_digits Hexadecimal text >>= long_id)

-- so many bytes behind the length, or RTR
unfoldable pub data_in : ℕ → List ℕ → Result (Option Content) LineFault
data_in len text = if bytes_eq (word text) (codes "RTR") then Ok None else (content_in Hexadecimal len text >>= (λ content. Ok (Some content)))

unfoldable pub data_frame : Layout → ℕ → List ℕ → Result Message LineFault
data_frame layout at line =
    id_in (field layout.id line) >>= (λ id. len_in (field layout.len line) >>= (λ len. data_in len (after_word (after layout.len line)) >>= (λ content. Ok (message_of at id content))))

unfoldable pub remote_frame : Layout → ℕ → List ℕ → Result Message LineFault
remote_frame layout at line = id_in (field layout.id line) >>= (λ id. Ok (message_of at id None))

abbrev pub some : Result Message LineFault → Result (Option Message) LineFault
some read = read >>= (λ message. Ok (Some message))

-- the frame of a line of a kind, if it is one
unfoldable pub frame_in : Kind → Layout → ℕ → List ℕ → Result (Option Message) LineFault
frame_in Data layout at line = some (data_frame layout at line)
frame_in Remote layout at line = some (remote_frame layout at line)
frame_in Error layout at line = Ok (Some (error_frame at))
frame_in Status layout at line = Ok None

-- a stamp in milliseconds, and the frame
unfoldable pub line_in : Layout → List ℕ → Result (Option Message) LineFault
line_in layout line = decimal_in 3 (field layout.stamp line) >>= (λ at. kind_in layout line >>= (λ kind. frame_in kind layout at line))
