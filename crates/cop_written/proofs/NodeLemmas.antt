-- The rows of a table of nodes that is written are read.
use Rattle.std.proofs.Common.{◌≡◌, ◌≢◌, ℕ, zero, suc, ◌+◌, ◌*◌, ◌%◌, ◌<◌, ◌≤◌, ◌⊎◌, inl, inr, Bool, true, false, not, ◌&&◌, ◌||◌, ◌==◌, if◌then◌else◌, List, [], ◌∷◌, ◌++◌, length, map, refl, sym, ap, ◌∙◌, arith, append_assoc, append-nil, add-zero, Result, Ok, Err, Option, Some, None, codes, decimal, lit<, nat_le}
use Rattle.std.proofs.Math.Bool.{or-true}
use Rattle.std.proofs.lemmas.Bool.{le-leb, ne_eqb, eq-eqb, eqb-true, and_parts, false_from_ne_true}
use Rattle.cop_table.specs.Reading.{◌>>=◌}
use Rattle.cop_table.specs.Rows.{rows_from}
use Rattle.cop_table.specs.Records.{records_of}
use Rattle.cop_table.proofs.RowsLemmas.{goes_on}
use Rattle.cop_rows.specs.declared.refusals.Column.TheVariants as columns
use Rattle.cop_rows.specs.declared.refusals.Rule.{Rule}
use Rattle.cop_rows.specs.declared.refusals.Rule.TheVariants as rules
use Rattle.cop_rows.specs.declared.refusals.Refusal.{Refusal}
use Rattle.cop_rows.specs.declared.node_table.DeviceRow.{DeviceRow}
use Rattle.cop_rows.specs.declared.node_table.FrameRow.{FrameRow}
use Rattle.cop_rows.specs.declared.node_table.FrameKind.{FrameKind}
use Rattle.cop_rows.specs.declared.node_table.FrameKind.TheVariants.{Nmt, Sync, Emcy, SdoResponse, SdoRequest, Heartbeat, Errors}
use Rattle.cop_rows.specs.Nodes.{NodeLists}
use Rattle.cop_rows.specs.NodeReading.{kind_of, is_device, has_node, is_heartbeat, is_period, device_in, frame_in, row_in, has_device, number_of_kind, has_frame, pushed, added, lacks_device, first_lacking, unless_lacking, with_devices, node_rows_of, nodes_of, no_rows, period_in, if_period, node_in}
use Rattle.cop_written.specs.declared.nodes.Device.{Device}
use Rattle.cop_written.specs.declared.nodes.Frame.{Frame}
use Rattle.cop_written.specs.Texts.{device_fields, device_lines, word_of, frame_fields, frame_lines, node_text}
use Rattle.cop_written.specs.Sound.{IsDevice, AreDevices, HasNode, rank, HasItsNode, IsFrame, AreFrames, device_rows, frame_rows, node_lists}
use Rattle.cop_written.proofs.CsvLemmas.{Fields, lines, lines_append, AreWide, wide_append, nodes_read}
use Rattle.cop_written.proofs.NumberLemmas.{within_decimal}

-- ---- records

device_records : List Device → List Fields
device_records [] = []
device_records (d ∷ devices) = device_fields d ∷ device_records devices

frame_records : List Frame → List Fields
frame_records [] = []
frame_records (f ∷ frames) = frame_fields f ∷ frame_records frames

device_lines_are : (devices : List Device) → device_lines devices ≡ lines (device_records devices)
unfolding device_records
device_lines_are [] = refl
device_lines_are (d ∷ devices) = rw (device_lines_are devices) refl

frame_lines_are : (frames : List Frame) → frame_lines frames ≡ lines (frame_records frames)
unfolding frame_records
frame_lines_are [] = refl
frame_lines_are (f ∷ frames) = rw (frame_lines_are frames) refl

devices_wide : (devices : List Device) → AreWide (device_records devices)
unfolding device_records
devices_wide [] = tt
devices_wide (d ∷ devices) = (lit< tt, devices_wide devices)

frames_wide : (frames : List Frame) → AreWide (frame_records frames)
unfolding frame_records
frames_wide [] = tt
frames_wide (f ∷ frames) = (lit< tt, frames_wide frames)

text_is : (devices : List Device) (frames : List Frame) → node_text devices frames ≡ codes "row,node,name,eds,period,jitter\n" ++ lines (device_records devices ++ frame_records frames)
text_is devices frames =
    rw (device_lines_are devices, frame_lines_are frames, lines_append (device_records devices) (frame_records frames))
    (append_assoc (codes "row,node,name,eds,period,jitter\n") (lines (device_records devices)) (lines (frame_records frames)))

-- ---- devices

-- all nodes of these rows are at most a number
AreUpTo : ℕ → List DeviceRow → Type 0
AreUpTo most [] = Unit {0}
AreUpTo most (d ∷ devices) = (d.node ≤ most) × AreUpTo most devices

up_to_more : (most : ℕ) (before : List DeviceRow) (d : DeviceRow) → most < d.node → AreUpTo most before → AreUpTo d.node (before ++ d ∷ [])
unfolding AreUpTo
up_to_more most [] d lt h = (omega arith, tt)
up_to_more most (x ∷ before) d lt h = (omega (arith, h.0, lt), up_to_more most before d lt h.1)

none_so_far : (most node : ℕ) (before : List DeviceRow) → most < node → AreUpTo most before → has_device before node ≡ false
unfolding AreUpTo
none_so_far most node [] lt h = refl
none_so_far most node (x ∷ before) lt h = rw (ne_eqb x.node node (λ e. omega (arith, h.0, lt, e)), none_so_far most node before lt h.1) refl

device_row : ℕ → Device → DeviceRow
device_row place d = record { place = place; node = d.node; name = d.name; eds = d.eds; settings = [] }

device_added : (place behind : ℕ) (d : Device) (before : List DeviceRow) → IsDevice behind d → AreUpTo behind before
    → added 6 place (record { devices = before; frames = [] }) (device_fields d) ≡ Ok (record { devices = before ++ device_row place d ∷ []; frames = [] })
unfolding device_in device_row
device_added place behind d before h up =
    rw (
      within_decimal columns.Node 1 127 d.node (omega (arith, h.rises)) h.most (omega arith),
      h.name,
      h.eds,
      none_so_far behind d.node before h.rises up,
    ) refl

devices_read : (place behind : ℕ) (before : List DeviceRow) (devices : List Device) (rest : List Fields) → AreDevices behind devices → AreUpTo behind before
    → rows_from (added 6) place (record { devices = before; frames = [] }) (device_records devices ++ rest)
    ≡ rows_from (added 6) (place + length devices) (record { devices = before ++ device_rows place devices; frames = [] }) rest
unfolding device_records device_row
devices_read place behind before [] rest h up = rw (add-zero place, append-nil before) refl
devices_read place behind before (d ∷ devices) rest h up =
    let here = goes_on (added 6) place (record { devices = before; frames = [] }) (record { devices = before ++ device_row place d ∷ []; frames = [] }) (device_fields d) (device_records devices ++ rest) _ refl (device_added place behind d before h.0 up) in
    let more = devices_read (place + 1) d.node (before ++ device_row place d ∷ []) devices rest h.1 (up_to_more behind before (device_row place d) h.0.rises up) in
    let count : place + 1 + length devices ≡ place + length (d ∷ devices) = omega arith in
    here ∙ more ∙ rw (count, append_assoc before (device_row place d ∷ []) (device_rows (place + 1) devices)) refl

-- ---- frames

word_known : (kind : FrameKind) → kind_of (word_of kind) ≡ Some kind
word_known Nmt = refl
word_known Sync = refl
word_known Emcy = refl
word_known SdoResponse = refl
word_known SdoRequest = refl
word_known Heartbeat = refl
word_known Errors = refl

no_device_word : (kind : FrameKind) → is_device (word_of kind) ≡ false
no_device_word Nmt = refl
no_device_word Sync = refl
no_device_word Emcy = refl
no_device_word SdoResponse = refl
no_device_word SdoRequest = refl
no_device_word Heartbeat = refl
no_device_word Errors = refl

milliseconds_kept : (kind : FrameKind) (period : ℕ) → (kind ≡ Heartbeat → period % 1000 ≡ 0) → (not (is_heartbeat kind) || (period % 1000 == 0)) ≡ true
milliseconds_kept Nmt period h = refl
milliseconds_kept Sync period h = refl
milliseconds_kept Emcy period h = refl
milliseconds_kept SdoResponse period h = refl
milliseconds_kept SdoRequest period h = refl
milliseconds_kept Heartbeat period h = rw (h refl) refl
milliseconds_kept Errors period h = refl

node_known : (devices : List Device) (behind node : ℕ) → AreDevices behind devices → HasNode devices node → (behind < node) × (node ≤ 127)
node_known [] behind node h has = absurd has
node_known (d ∷ devices) behind node h (inl e) = (omega (arith, h.0.rises, e), omega (arith, h.0.most, e))
node_known (d ∷ devices) behind node h (inr has) = let more = node_known devices d.node node h.1 has in (omega (arith, more.0, h.0.rises), more.1)

node_read : (devices : List Device) (f : Frame) (b : Bool) → AreDevices 0 devices → has_node f.kind ≡ b → HasItsNode devices f b → node_in f.kind (decimal f.node) ≡ Ok f.node
node_read devices f true all e has = let range = node_known devices 0 f.node all has in rw (e, within_decimal columns.Node 1 127 f.node (omega (arith, range.0)) range.1 (omega arith)) refl
node_read devices f false all e has = rw (e, has, within_decimal columns.Node 0 0 0 (omega arith) (omega arith) (omega arith)) refl

period_read : (f : Frame) → 100 ≤ f.period → f.period ≤ 60000000 → (f.kind ≡ Heartbeat → f.period % 1000 ≡ 0) → period_in f.kind (decimal f.period) ≡ Ok f.period
period_read f least most millis =
    rw (
      within_decimal columns.Period 0 60000000 f.period (omega arith) most (omega arith),
      ne_eqb f.period 0 (λ e. omega (arith, least, e)),
      le-leb 100 f.period least,
      le-leb f.period 60000000 most,
      milliseconds_kept f.kind f.period millis,
    ) refl

frame_row : ℕ → Frame → FrameRow
frame_row place f = record { place = place; kind = f.kind; node = f.node; period = f.period; jitter = 0; deadline = None }

frame_rank : FrameRow → ℕ
frame_rank f = 8 * f.node + number_of_kind f.kind

AreBelow : ℕ → List FrameRow → Type 0
AreBelow most [] = Unit {0}
AreBelow most (f ∷ frames) = (frame_rank f ≤ most) × AreBelow most frames

below_more : (most : ℕ) (before : List FrameRow) (f : FrameRow) → most < frame_rank f → AreBelow most before → AreBelow (frame_rank f) (before ++ f ∷ [])
unfolding AreBelow
below_more most [] f lt h = (omega arith, tt)
below_more most (x ∷ before) f lt h = (omega (arith, h.0, lt), below_more most before f lt h.1)

-- a frame of this kind and node has this rank
other_frame : (most : ℕ) (f : FrameRow) (kind : FrameKind) (node : ℕ) → most < 8 * node + number_of_kind kind → frame_rank f ≤ most
    → ((number_of_kind f.kind == number_of_kind kind) && (f.node == node)) ≡ false
unfolding frame_rank
other_frame most f kind node lt le = false_from_ne_true _ (λ both.
    let parts = and_parts (number_of_kind f.kind == number_of_kind kind) (f.node == node) both in
    let kinds : number_of_kind f.kind ≡ number_of_kind kind = eqb-true _ _ parts.0 in
    let nodes : f.node ≡ node = eqb-true _ _ parts.1 in
    omega (arith, kinds, nodes, lt, le))

no_frame_so_far : (most : ℕ) (kind : FrameKind) (node : ℕ) (before : List FrameRow) → most < 8 * node + number_of_kind kind → AreBelow most before → has_frame before kind node ≡ false
unfolding AreBelow
no_frame_so_far most kind node [] lt h = refl
no_frame_so_far most kind node (x ∷ before) lt h = rw (other_frame most x kind node lt h.0, no_frame_so_far most kind node before lt h.1) refl

frame_added : (devices : List Device) (place behind : ℕ) (ds : List DeviceRow) (f : Frame) (before : List FrameRow) → AreDevices 0 devices → IsFrame devices behind f → AreBelow behind before
    → added 6 place (record { devices = ds; frames = before }) (frame_fields f) ≡ Ok (record { devices = ds; frames = before ++ frame_row place f ∷ [] })
unfolding frame_in frame_row
frame_added devices place behind ds f before all h below =
    rw (
      no_device_word f.kind,
      word_known f.kind,
      node_read devices f (has_node f.kind) all refl h.node,
      period_read f h.least h.most h.milliseconds,
      no_frame_so_far behind f.kind f.node before h.rises below,
    ) refl

frames_read : (devices : List Device) (place behind : ℕ) (ds : List DeviceRow) (before : List FrameRow) (frames : List Frame) → AreDevices 0 devices → AreFrames devices behind frames → AreBelow behind before
    → rows_from (added 6) place (record { devices = ds; frames = before }) (frame_records frames) ≡ Ok (record { devices = ds; frames = before ++ frame_rows place frames })
unfolding frame_records frame_row rows_from frame_rank
frames_read devices place behind ds before [] all h below = rw (append-nil before) refl
frames_read devices place behind ds before (f ∷ frames) all h below =
    let here = goes_on (added 6) place (record { devices = ds; frames = before }) (record { devices = ds; frames = before ++ frame_row place f ∷ [] }) (frame_fields f) (frame_records frames) _ refl (frame_added devices place behind ds f before all h.0 below) in
    let more = frames_read devices (place + 1) (rank f) ds (before ++ frame_row place f ∷ []) frames all h.1 (below_more behind before (frame_row place f) h.0.rises below) in
    here ∙ more ∙ rw (append_assoc before (frame_row place f ∷ []) (frame_rows (place + 1) frames)) refl

-- ---- the whole table

has_row : (place node : ℕ) (devices : List Device) → HasNode devices node → has_device (device_rows place devices) node ≡ true
has_row place node [] has = absurd has
has_row place node (d ∷ devices) (inl e) = rw (eq-eqb d.node node e) refl
has_row place node (d ∷ devices) (inr has) = rw (has_row (place + 1) node devices has) (or-true (d.node == node))

not_lacking : (devices : List Device) (place at : ℕ) (f : Frame) (b : Bool) → has_node f.kind ≡ b → HasItsNode devices f b → lacks_device (device_rows place devices) (frame_row at f) ≡ false
unfolding frame_row
not_lacking devices place at f true e has = rw (e, has_row place f.node devices has) refl
not_lacking devices place at f false e has = rw e refl

none_lacking : (devices : List Device) (place at behind : ℕ) (frames : List Frame) → AreFrames devices behind frames → first_lacking (device_rows place devices) (frame_rows at frames) ≡ None
unfolding frame_row
none_lacking devices place at behind [] h = refl
none_lacking devices place at behind (f ∷ frames) h =
    rw (not_lacking devices place at f (has_node f.kind) refl h.0.node) (none_lacking devices place (at + 1) (rank f) frames h.1)

some_row : (place : ℕ) (devices : List Device) → 1 ≤ length devices → (length (device_rows place devices) == 0) ≡ false
some_row place [] h = absurd (omega arith)
some_row place (d ∷ devices) h = ne_eqb (length (device_rows place (d ∷ devices))) 0 (λ e. omega (arith, e))

pub nodes_are_read : (devices : List Device) (frames : List Frame) → 1 ≤ length devices → AreDevices 0 devices → AreFrames devices 0 frames
    → nodes_of (node_text devices frames) ≡ Ok (node_lists devices frames)
unfolding node_rows_of AreUpTo AreBelow
nodes_are_read devices frames some all each =
    let table = nodes_read (device_records devices ++ frame_records frames) (wide_append _ _ (devices_wide devices) (frames_wide frames)) in
    let first = devices_read 1 0 [] devices (frame_records frames) all tt in
    let more = frames_read devices (1 + length devices) 0 (device_rows 1 devices) [] frames all each tt in
    rw (text_is devices frames, table, first, more, none_lacking devices 1 (1 + length devices) 0 frames each, some_row 1 devices some) refl
