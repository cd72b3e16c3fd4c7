-- Tables as texts: CSV (RFC 4180), as csv writes it.
use Rattle.std.specs.Prelude.{ℕ, List, [], ◌∷◌, ◌++◌, codes, decimal}
use Rattle.csv.specs.Writing.{row_text, default_writer}
use Rattle.cop_rows.specs.declared.pdo_table.Consumer.{Consumer}
use Rattle.cop_rows.specs.declared.node_table.FrameKind.{FrameKind}
use Rattle.cop_rows.specs.declared.node_table.FrameKind.TheVariants.{Nmt, Sync, Emcy, SdoResponse, SdoRequest, Heartbeat, Errors}
use Rattle.cop_written.specs.declared.nodes.Device.{Device}
use Rattle.cop_written.specs.declared.nodes.Frame.{Frame}
use Rattle.cop_written.specs.declared.pdos.Row.{Row}

-- a record as a line
unfoldable pub line : List (List ℕ) → List ℕ
line fields = row_text default_writer fields

abbrev pub device_fields : Device → List (List ℕ)
device_fields d = codes "device" ∷ decimal d.node ∷ d.name ∷ d.eds ∷ codes "0" ∷ codes "0" ∷ []

abbrev pub device_lines : List Device → List ℕ
device_lines [] = []
device_lines (d ∷ devices) = line (device_fields d) ++ device_lines devices

abbrev pub word_of : FrameKind → List ℕ
word_of Nmt = codes "nmt"
word_of Sync = codes "sync"
word_of Emcy = codes "emcy"
word_of SdoResponse = codes "sdo_response"
word_of SdoRequest = codes "sdo_request"
word_of Heartbeat = codes "heartbeat"
word_of Errors = codes "errors"

abbrev pub frame_fields : Frame → List (List ℕ)
frame_fields f = word_of f.kind ∷ decimal f.node ∷ [] ∷ [] ∷ decimal f.period ∷ codes "0" ∷ []

abbrev pub frame_lines : List Frame → List ℕ
frame_lines [] = []
frame_lines (f ∷ frames) = line (frame_fields f) ++ frame_lines frames

-- the table of nodes: the devices, and then the frames
abbrev pub node_text : List Device → List Frame → List ℕ
node_text devices frames = (codes "row,node,name,eds,period,jitter\n" ++ device_lines devices) ++ frame_lines frames

abbrev pub consumer_text : Consumer → List ℕ
consumer_text c = decimal c.node ++ 46 ∷ decimal c.rpdo

-- a blank before each
abbrev pub more_consumers : List Consumer → List ℕ
more_consumers [] = []
more_consumers (c ∷ cs) = 32 ∷ (consumer_text c ++ more_consumers cs)

-- consumers with one blank between them
abbrev pub consumers_text : List Consumer → List ℕ
consumers_text [] = []
consumers_text (c ∷ cs) = consumer_text c ++ more_consumers cs

abbrev pub row_fields : Row → List (List ℕ)
row_fields r = decimal r.node ∷ decimal r.tpdo ∷ decimal r.period ∷ codes "0" ∷ decimal r.deadline ∷ consumers_text r.consumers ∷ []

abbrev pub row_lines : List Row → List ℕ
row_lines [] = []
row_lines (r ∷ rows) = line (row_fields r) ++ row_lines rows

-- the table of PDOs
abbrev pub pdo_text : List Row → List ℕ
pdo_text rows = codes "node,tpdo,period,jitter,deadline,consumers\n" ++ row_lines rows
