-- A log that is read line by line. Its first line that is not blank tells its form.
use Rattle.std.specs.Prelude.{ℕ, ◌+◌, ◌-◌, Bool, false, true, not, ◌&&◌, ◌||◌, List, [], ◌∷◌, length, take, drop, slice_index, codes, nat_lt, ◌==◌, if◌then◌else◌, Option, Some, None, Result, Ok, Err}
use Rattle.std.specs.Str.{bytes_eq}
use Rattle.cop_table.specs.Reading.{◌>>=◌}
use Rattle.cop_lines.specs.Words.{place_in, front, back, word, after, field, begins}
use Rattle.cop_lines.specs.Numbers.{moment, decimal_in}
use Rattle.cop_lines.specs.Lines.{stamp_in, logged_in}
use Rattle.cop_lines.specs.Columns as columns
use Rattle.cop_lines.specs.Vector as vector
use Rattle.cop_lines.specs.Peak as peak
use Rattle.cop_lines.specs.declared.entries.Message.{Message}
use Rattle.cop_lines.specs.declared.forms.Form.{Form}
use Rattle.cop_lines.specs.declared.forms.Form.TheVariants.{Unknown, Log, Columns, Vector, Peak}
use Rattle.cop_lines.specs.declared.forms.Layout.{Layout}
use Rattle.cop_lines.specs.declared.numbers.Base.{Base}
use Rattle.cop_lines.specs.declared.numbers.Base.TheVariants.{Hexadecimal}
use Rattle.cop_lines.specs.declared.reader.LineReader.{LineReader}
use Rattle.cop_lines.specs.declared.reader.Reading.{Reading}
use Rattle.cop_lines.specs.declared.faults.LineFault.{LineFault}
use Rattle.cop_lines.specs.declared.faults.LineFault.TheVariants as fault

-- ";" begins a log of PEAK; "date", "base" or "//" one of Vector; "(" one of candump, which has "#" in its third word where `-L` wrote it
abbrev pub is_of_vector : List ℕ → Bool
is_of_vector text = bytes_eq text (codes "date") || (bytes_eq text (codes "base") || begins (codes "//") text)

abbrev pub is_in_columns : List ℕ → Bool
is_in_columns line = place_in 35 (field 2 line) == length (field 2 line)

abbrev pub form_of_candump : List ℕ → Form
form_of_candump line = if is_in_columns line then Columns else Log

-- no other line tells a form, and a blank one none yet
unfoldable pub form_of : List ℕ → Result Form LineFault
form_of line =
    if length (word line) == 0 then Ok Unknown else
    if begins (codes ";") (word line) then Ok (Peak peak.first_layout) else
    if is_of_vector (word line) then Ok (Vector Hexadecimal false) else
    if begins (codes "(") (word line) then Ok (form_of_candump line) else Err fault.Form

-- the mark of UTF-8 may stand in front of a text
unfoldable pub without_mark : List ℕ → List ℕ
without_mark text = if begins (239 ∷ 187 ∷ 191 ∷ []) text then drop 3 text else text

abbrev pub begun : Bool → LineReader
begun are_distances = record { form = Unknown; are_distances = are_distances; at = 0 }

abbrev pub knowing : LineReader → Form → LineReader
knowing r form = record r { form = form }

abbrev pub with_moment : LineReader → ℕ → LineReader
with_moment r at = record r { at = at }

-- no frame
abbrev pub nothing : LineReader → Reading
nothing r = record { reader = r; message = None }

-- The moment of a line: its stamp, or its distance from the moment before.
unfoldable pub moment_of : Bool → ℕ → ℕ → Result ℕ LineFault
moment_of are_distances before stamp = if are_distances then moment (before + stamp) else Ok stamp

-- The moment of a line whose stamp is the distance from the line before, below an hour: one that is longer is none.
unfoldable pub moment_behind : Bool → ℕ → ℕ → Result ℕ LineFault
moment_behind are_distances before stamp =
    if are_distances then (if nat_lt stamp 3600000000 then moment (before + stamp) else Err fault.Distance) else Ok stamp

-- a CR at the end belongs to the end of the line
abbrev pub without_cr : List ℕ → List ℕ
without_cr line = if (nat_lt 0 (length line)) && (slice_index line (length line - 1) == 13) then take (length line - 1) line else line

-- blank lines are passed over
unfoldable pub log_step : LineReader → List ℕ → Result Reading LineFault
log_step r line =
    if length (word line) == 0 then Ok (nothing r) else
    logged_in (without_cr line) >>= (λ message. Ok (record { reader = r; message = Some message }))

-- with -e the words of an error frame stand in lines of their own behind it, each behind a tab
abbrev pub has_words : List ℕ → Bool
has_words line = begins (9 ∷ []) line

unfoldable pub column_step : LineReader → List ℕ → Result Reading LineFault
column_step r line =
    if (length (word line) == 0) || has_words line then Ok (nothing r) else
    (stamp_in (word line) >>= (λ stamp.
    moment_behind r.are_distances r.at stamp >>= (λ at.
    columns.frame_in at (columns.from_id line) >>= (λ message.
    Ok (record { reader = with_moment r at; message = Some message })))))

unfoldable pub event_step : Base → Bool → LineReader → List ℕ → Result Reading LineFault
event_step base are_distances r line =
    decimal_in 6 (word line) >>= (λ stamp.
    moment_of are_distances r.at stamp >>= (λ at.
    vector.event_in base at (after 1 line) >>= (λ message.
    Ok (record { reader = with_moment r at; message = message }))))

unfoldable pub vector_step : Base → Bool → LineReader → List ℕ → Result Reading LineFault
vector_step base are_distances r line =
    if (length (word line) == 0) || vector.is_header (word line) then Ok (nothing r) else
    if bytes_eq (word line) (codes "base") then (vector.base_in line >>= (λ form. Ok (nothing (knowing r form)))) else
    event_step base are_distances r line

unfoldable pub peak_step : Layout → LineReader → List ℕ → Result Reading LineFault
peak_step layout r line =
    if length (word line) == 0 then Ok (nothing r) else
    if begins (codes ";") (word line) then (peak.header_in layout (word line) >>= (λ layout. Ok (nothing (knowing r (Peak layout))))) else
    (peak.line_in layout line >>= (λ message. Ok (record { reader = r; message = message })))

-- a line of the form that the reader knows
unfoldable pub step_by : Form → LineReader → List ℕ → Result Reading LineFault
step_by Unknown r line = Ok (nothing r)
step_by Log r line = log_step r line
step_by Columns r line = column_step r line
step_by (Vector base are_distances) r line = vector_step base are_distances r line
step_by (Peak layout) r line = peak_step layout r line

-- the first distance is 0, since no line stands before it
abbrev pub is_first : Form → LineReader → Bool
is_first Columns r = not r.are_distances || (r.at == 0)
is_first form r = true

unfoldable pub first_step : LineReader → List ℕ → Result Reading LineFault
first_step r line =
    form_of line >>= (λ form.
    step_by form (knowing r form) line >>= (λ s.
    if is_first form s.reader then Ok s else Err fault.Distance))

-- the line that tells the form, or a later one
abbrev pub step_of : Form → LineReader → List ℕ → Result Reading LineFault
step_of Unknown r line = first_step r (without_mark line)
step_of form r line = step_by form r line

unfoldable pub step : LineReader → List ℕ → Result Reading LineFault
step r line = step_of r.form r line

-- what is read of a line, and the reader behind it, which a refused line does not change
abbrev pub message_in : LineReader → List ℕ → Result (Option Message) LineFault
message_in r line = step r line >>= (λ s. Ok s.message)

abbrev pub reader_of : LineReader → Result Reading LineFault → LineReader
reader_of r (Ok s) = s.reader
reader_of r (Err fault) = r

abbrev pub reader_behind : LineReader → List ℕ → LineReader
reader_behind r line = reader_of r (step r line)

-- The channel of a line that has a frame. A log of PEAK that has no column for it is of one channel, 1.
abbrev pub bus_in : Option ℕ → List ℕ → List ℕ
bus_in (Some n) line = field n line
bus_in None line = codes "1"

unfoldable pub channel_by : Form → List ℕ → List ℕ
channel_by Unknown line = []
channel_by Log line = front 32 (back 32 line)
channel_by Columns line = field 1 line
channel_by (Vector base are_distances) line = vector.bus_in line
channel_by (Peak layout) line = bus_in layout.bus line
