-- Reading the table of nodes.
use Rattle.std.specs.Prelude.{ℕ, ◌+◌, ◌%◌, Bool, true, false, not, ◌&&◌, ◌||◌, List, [], ◌∷◌, ◌++◌, length, codes, ◌==◌, if◌then◌else◌, Option, Some, None, Result, Ok, Err}
use Rattle.std.specs.List.{list_any}
use Rattle.std.specs.Str.{bytes_eq}
use Rattle.cop_table.specs.Reading.{◌>>=◌}
use Rattle.cop_table.specs.Records.{field}
use Rattle.cop_table.specs.Rows.{rows_from}
use Rattle.cop_rows.specs.declared.refusals.Column.{Column}
use Rattle.cop_rows.specs.declared.refusals.Column.TheVariants as columns
use Rattle.cop_rows.specs.declared.refusals.Rule.{Rule}
use Rattle.cop_rows.specs.declared.refusals.Rule.TheVariants as rules
use Rattle.cop_rows.specs.declared.refusals.Refusal.{Refusal}
use Rattle.cop_rows.specs.declared.node_table.DeviceRow.{DeviceRow}
use Rattle.cop_rows.specs.declared.node_table.FrameRow.{FrameRow}
use Rattle.cop_rows.specs.declared.node_table.FrameKind.{FrameKind}
use Rattle.cop_rows.specs.declared.node_table.FrameKind.TheVariants.{Nmt, Sync, Emcy, SdoResponse, SdoRequest, Heartbeat, Errors}
use Rattle.cop_rows.specs.declared.node_rows.Row.{Row}
use Rattle.cop_rows.specs.declared.node_rows.Row.TheVariants as variants
use Rattle.cop_rows.specs.Fields.{number_within, is_within, name_of, rows_under_one_of}
use Rattle.cop_rows.specs.Nodes.{NodeLists, may_have_deadline}
use Rattle.cop_rows.specs.Refusals.{placed, refuse}

-- the word of a row that is no device's
abbrev pub kind_of : List ℕ → Option FrameKind
kind_of word =
    if bytes_eq word (codes "nmt") then Some Nmt
    else if bytes_eq word (codes "sync") then Some Sync
    else if bytes_eq word (codes "emcy") then Some Emcy
    else if bytes_eq word (codes "sdo_response") then Some SdoResponse
    else if bytes_eq word (codes "sdo_request") then Some SdoRequest
    else if bytes_eq word (codes "heartbeat") then Some Heartbeat
    else if bytes_eq word (codes "errors") then Some Errors
    else None

abbrev pub is_device : List ℕ → Bool
is_device word = bytes_eq word (codes "device")

-- NMT, SYNC and disturbed transfers are no node's
abbrev pub has_node : FrameKind → Bool
has_node Nmt = false
has_node Sync = false
has_node Emcy = true
has_node SdoResponse = true
has_node SdoRequest = true
has_node Heartbeat = true
has_node Errors = false

abbrev pub is_heartbeat : FrameKind → Bool
is_heartbeat Nmt = false
is_heartbeat Sync = false
is_heartbeat Emcy = false
is_heartbeat SdoResponse = false
is_heartbeat SdoRequest = false
is_heartbeat Heartbeat = true
is_heartbeat Errors = false

-- node 0, or 1 to 127
abbrev pub node_in : FrameKind → List ℕ → Result ℕ Rule
node_in kind text = if has_node kind then number_within columns.Node 1 127 text else number_within columns.Node 0 0 text

-- 0 for never, or 100 to 60,000,000, for a heartbeat whole milliseconds
abbrev pub is_period : FrameKind → ℕ → Bool
is_period kind n = (n == 0) || (is_within 100 60000000 n && (not (is_heartbeat kind) || (n % 1000 == 0)))

abbrev pub if_period : FrameKind → ℕ → Result ℕ Rule
if_period kind n = if is_period kind n then Ok n else Err (rules.Value columns.Period)

abbrev pub period_in : FrameKind → List ℕ → Result ℕ Rule
period_in kind text = number_within columns.Period 0 60000000 text >>= if_period kind

-- a column's field that is to be empty
abbrev pub no_text : Column → List ℕ → Result (Unit {0}) Rule
no_text column text = if length text == 0 then Ok tt else Err (rules.Value column)

-- no text, for none, or that of an SDO frame that is sent
abbrev pub deadline_in : FrameKind → ℕ → List ℕ → Result (Option ℕ) Rule
deadline_in kind period text =
    if length text == 0 then Ok None
    else if may_have_deadline kind && not (period == 0) then (number_within columns.Deadline 1 60000000 text >>= λ n. Ok (Some n))
    else Err (rules.Value columns.Deadline)

-- the row of a frame
unfoldable pub frame_in : ℕ → FrameKind → List (List ℕ) → Result FrameRow Rule
frame_in place kind row = do
  node ← node_in kind (field row 1)
  no_name ← no_text columns.Name (field row 2)
  no_eds ← no_text columns.Eds (field row 3)
  period ← period_in kind (field row 4)
  jitter ← number_within columns.Jitter 0 60000000 (field row 5)
  deadline ← deadline_in kind period (field row 6)
  Ok (record { place = place; kind = kind; node = node; period = period; jitter = jitter; deadline = deadline })

-- the row of a device, whose period and jitter are 0, and which has no deadline
unfoldable pub device_in : ℕ → List (List ℕ) → Result DeviceRow Rule
device_in place row = do
  node ← number_within columns.Node 1 127 (field row 1)
  period ← number_within columns.Period 0 0 (field row 4)
  jitter ← number_within columns.Jitter 0 0 (field row 5)
  no_deadline ← no_text columns.Deadline (field row 6)
  name ← name_of columns.Name (field row 2)
  eds ← name_of columns.Eds (field row 3)
  Ok (record { place = place; node = node; name = name; eds = eds; settings = [] })

-- the row's word is one of those
abbrev pub or_word : {A : Type 0} → Option A → Result A Rule
or_word None = Err (rules.Value columns.Row)
or_word (Some x) = Ok x

abbrev pub as_device : Result DeviceRow Rule → Result Row Rule
as_device device = device >>= λ device. Ok (variants.Device device)

abbrev pub as_frame : Result FrameRow Rule → Result Row Rule
as_frame frame = frame >>= λ frame. Ok (variants.Frame frame)

-- the row of a record of so many fields, or the least rule that it breaks
abbrev pub row_in : ℕ → ℕ → List (List ℕ) → Result Row Rule
row_in width place row =
    if not (length row == width) then Err rules.Fields
    else if is_device (field row 0) then as_device (device_in place row)
    else as_frame (or_word (kind_of (field row 0)) >>= λ kind. frame_in place kind row)

-- whether a device row has this node
abbrev pub has_device : List DeviceRow → ℕ → Bool
has_device devices node = list_any (λ d. d.node == node) devices

-- the number of a kind, from 1 on
unfoldable pub number_of_kind : FrameKind → ℕ
number_of_kind Nmt = 1
number_of_kind Sync = 2
number_of_kind Emcy = 3
number_of_kind SdoResponse = 4
number_of_kind SdoRequest = 5
number_of_kind Heartbeat = 6
number_of_kind Errors = 7

-- whether a row is of this kind and node
abbrev pub has_frame : List FrameRow → FrameKind → ℕ → Bool
has_frame frames kind node = list_any (λ f. (number_of_kind f.kind == number_of_kind kind) && (f.node == node)) frames

-- the rows and one more, or the rule against it
abbrev pub pushed : NodeLists → Row → Result NodeLists Rule
pushed lists (variants.Device d) =
    if has_device lists.devices d.node then Err rules.RowRepeated
    else Ok (record { devices = lists.devices ++ d ∷ []; frames = lists.frames })
pushed lists (variants.Frame f) =
    if has_frame lists.frames f.kind f.node then Err rules.RowRepeated
    else Ok (record { devices = lists.devices; frames = lists.frames ++ f ∷ [] })

-- the row of a record after those of the records before it
abbrev pub added : ℕ → ℕ → NodeLists → List (List ℕ) → Result NodeLists Refusal
added width place lists row = placed place (row_in width place row >>= pushed lists)

-- a row's node has no device row
abbrev pub lacks_device : List DeviceRow → FrameRow → Bool
lacks_device devices f = has_node f.kind && not (has_device devices f.node)

-- the record of the first such row
abbrev pub first_lacking : List DeviceRow → List FrameRow → Option ℕ
first_lacking devices [] = None
first_lacking devices (f ∷ frames) = if lacks_device devices f then Some f.place else first_lacking devices frames

abbrev pub unless_lacking : Option ℕ → NodeLists → Result NodeLists Refusal
unless_lacking None lists = if length lists.devices == 0 then refuse rules.NoDevice 0 else Ok lists
unless_lacking (Some place) lists = refuse rules.NoDevice place

-- each row has its device row, and there is one at least
abbrev pub with_devices : NodeLists → Result NodeLists Refusal
with_devices lists = unless_lacking (first_lacking lists.devices lists.frames) lists

abbrev pub no_rows : NodeLists
no_rows = record { devices = []; frames = [] }

abbrev pub header : List (List ℕ)
header = codes "row" ∷ codes "node" ∷ codes "name" ∷ codes "eds" ∷ codes "period" ∷ codes "jitter" ∷ []

abbrev pub header_with_deadline : List (List ℕ)
header_with_deadline = codes "row" ∷ codes "node" ∷ codes "name" ∷ codes "eds" ∷ codes "period" ∷ codes "jitter" ∷ codes "deadline" ∷ []

-- which header it is, and the records under it
abbrev pub rows_in : List ℕ → Result (ℕ × List (List (List ℕ))) Refusal
rows_in text = rows_under_one_of (header ∷ header_with_deadline ∷ []) text

-- how many fields a record has under the header of a place
abbrev pub width_of : ℕ → ℕ
width_of place = 6 + place

-- the rows of a table, whose nodes may want their device rows
unfoldable pub node_rows_of : List ℕ → Result NodeLists Refusal
node_rows_of text = do
  found ← rows_in text
  rows_from (added (width_of found.0)) 1 no_rows found.1

-- the nodes of a table
abbrev pub nodes_of : List ℕ → Result NodeLists Refusal
nodes_of text = node_rows_of text >>= with_devices
