-- Rows that a table takes, and what is read of their text.
use Rattle.std.specs.Prelude.{ℕ, ◌≡◌, ◌≢◌, ◌+◌, ◌*◌, ◌%◌, ◌<◌, ◌≤◌, ◌⊎◌, Bool, true, false, List, [], ◌∷◌, length, Option, None}
use Rattle.std.specs.List.{AllByRecursion}
use Rattle.cop_rows.specs.Names.{is_name}
use Rattle.cop_rows.specs.Nodes.{NodeLists}
use Rattle.cop_rows.specs.NodeReading.{has_node, number_of_kind}
use Rattle.cop_rows.specs.Pdos.{IsConsumer}
use Rattle.cop_rows.specs.declared.node_table.DeviceRow.{DeviceRow}
use Rattle.cop_rows.specs.declared.node_table.FrameRow.{FrameRow}
use Rattle.cop_rows.specs.declared.node_table.FrameKind.TheVariants.{Heartbeat}
use Rattle.cop_rows.specs.declared.pdo_table.PdoRow.{PdoRow}
use Rattle.cop_written.specs.declared.nodes.Device.{Device}
use Rattle.cop_written.specs.declared.nodes.Frame.{Frame}
use Rattle.cop_written.specs.declared.pdos.Row.{Row}

-- a device with one of the next nodes behind a number
pub record IsDevice (behind : ℕ) (d : Device) : Type 0 where
  pub rises : behind < d.node
  pub most : d.node ≤ 127
  pub name : is_name d.name ≡ true
  pub eds : is_name d.eds ≡ true

-- devices by rising node
abbrev pub AreDevices : ℕ → List Device → Type 0
AreDevices behind [] = Unit {0}
AreDevices behind (d ∷ devices) = IsDevice behind d × AreDevices d.node devices

-- some device has this node
abbrev pub HasNode : List Device → ℕ → Type 0
HasNode [] node = ⊥
HasNode (d ∷ devices) node = (d.node ≡ node) ⊎ HasNode devices node

-- frames stand by rising node, and of one node in the order of their kinds' numbers
abbrev pub rank : Frame → ℕ
rank f = 8 * f.node + number_of_kind f.kind

abbrev pub HasItsNode : List Device → Frame → Bool → Type 0
HasItsNode devices f true = HasNode devices f.node
HasItsNode devices f false = f.node ≡ 0

-- a frame behind a rank that a table takes beside some devices
pub record IsFrame (devices : List Device) (behind : ℕ) (f : Frame) : Type 0 where
  pub rises : behind < rank f
  pub node : HasItsNode devices f (has_node f.kind)
  pub least : 100 ≤ f.period
  pub most : f.period ≤ 60000000
  pub milliseconds : f.kind ≡ Heartbeat → f.period % 1000 ≡ 0

abbrev pub AreFrames : List Device → ℕ → List Frame → Type 0
AreFrames devices behind [] = Unit {0}
AreFrames devices behind (f ∷ frames) = IsFrame devices behind f × AreFrames devices (rank f) frames

-- the rows that are read, whose records are numbered from a place on
abbrev pub device_rows : ℕ → List Device → List DeviceRow
device_rows place [] = []
device_rows place (d ∷ devices) = record { place = place; node = d.node; name = d.name; eds = d.eds; settings = [] } ∷ device_rows (place + 1) devices

abbrev pub frame_rows : ℕ → List Frame → List FrameRow
frame_rows place [] = []
frame_rows place (f ∷ frames) =
    record { place = place; kind = f.kind; node = f.node; period = f.period; jitter = 0; deadline = None } ∷ frame_rows (place + 1) frames

abbrev pub node_lists : List Device → List Frame → NodeLists
node_lists devices frames = record { devices = device_rows 1 devices; frames = frame_rows (1 + length devices) frames }

-- a TPDO, by a number that rises with its node and then with its own
abbrev pub key : Row → ℕ
key r = 512 * r.node + r.tpdo

-- a row behind a number that a table takes
pub record IsRow (behind : ℕ) (r : Row) : Type 0 where
  pub rises : behind < key r
  pub node_least : 1 ≤ r.node
  pub node_most : r.node ≤ 127
  pub tpdo_least : 1 ≤ r.tpdo
  pub tpdo_most : r.tpdo ≤ 512
  pub period : (r.period ≡ 0) ⊎ ((100 ≤ r.period) × (r.period ≤ 60000000))
  pub deadline_least : 1 ≤ r.deadline
  pub deadline_most : r.deadline ≤ 60000000
  pub consumers : AllByRecursion IsConsumer r.consumers

-- rows by rising node and TPDO
abbrev pub AreRows : ℕ → List Row → Type 0
AreRows behind [] = Unit {0}
AreRows behind (r ∷ rows) = IsRow behind r × AreRows (key r) rows

-- the rows that are read
abbrev pub pdo_rows : List Row → List PdoRow
pdo_rows [] = []
pdo_rows (r ∷ rows) =
    record { node = r.node; tpdo = r.tpdo; period = r.period; jitter = 0; deadline = r.deadline; consumers = r.consumers } ∷ pdo_rows rows
