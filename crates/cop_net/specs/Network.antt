-- The network of the tables and the EDS files.
use Rattle.std.specs.Prelude.{◌≡◌, ◌<◌, ◌≤◌, ◌⊎◌, ℕ, ◌+◌, map, length, find, slice_get, IsSome, option_and_then, Bool, true, false, not, ◌&&◌, List, [], ◌∷◌, ◌++◌, Option, Some, None, if◌then◌else◌, Result, Ok}
use Rattle.std.specs.List.{list_any}
use Rattle.std.specs.Option.{option_map_or}
use Rattle.cop_frame.specs.declared.rates.Rate.{Rate}
use Rattle.cop_dict.specs.Find as dictionary
use Rattle.cop_rows.specs.declared.node_table.DeviceRow.{DeviceRow}
use Rattle.cop_rows.specs.declared.node_table.FrameRow.{FrameRow}
use Rattle.cop_rows.specs.declared.pdo_table.PdoRow.{PdoRow}
use Rattle.cop_rows.specs.Nodes.{NodeLists, IsNodeTable}
use Rattle.cop_rows.specs.Pdos.{IsPdoTable}
use Rattle.cop_rta.specs.declared.streams.Stream.{Stream}
use Rattle.cop_rta.specs.Entries.{Entry, entry_of}
use Rattle.cop_rta.specs.Test.{of_stream}
use Rattle.cop_rta.specs.UpLemmas.{up_id}
use Rattle.cop_table.specs.Reading.{◌>>=◌}
use Rattle.cop_net.specs.declared.faults.Refusal.{Refusal}
use Rattle.cop_net.specs.declared.faults.Rule.TheVariants as rules
use Rattle.cop_net.specs.declared.devices.Device.{Device}
use Rattle.cop_net.specs.declared.uses.Used.{Used}
use Rattle.cop_net.specs.Faults.{at_node}
use Rattle.cop_net.specs.Rates.{is_some_rate}
use Rattle.cop_rta.specs.Ranges.{second_range, IsOutside}
use Rattle.cop_rta.specs.Greatest.{AreSynced}
use Rattle.cop_net.specs.Fixed.{frame_stream, fixed_streams}
use Rattle.cop_net.specs.Signals.{signals_of, errors_in, has_sdo_deadline}
use Rattle.cop_net.specs.Heartbeats.{heartbeat_of}
use Rattle.cop_net.specs.Settings.{beats, stays_on}
use Rattle.cop_net.specs.Devices.{File, Equipment, devices_of}
use Rattle.cop_net.specs.Pdos.{pdos_of}
use Rattle.cop_net.specs.Uses.{is_used}

-- some PDO that nobody uses stays on
abbrev pub has_stray : List Used → ℕ → List dictionary.Entry → Bool
has_stray used node dict = list_any (λ entry. stays_on dict entry && not (is_used used node entry.index)) dict

-- the communication record of the first one, by its index
abbrev pub first_stray : List Used → ℕ → List dictionary.Entry → ℕ
first_stray used node dict = option_map_or (λ entry. entry.index) (find (λ entry. stays_on dict entry && not (is_used used node entry.index)) dict) 0

-- a device takes what each plan sets: its heartbeat's time, and that unused PDOs are off
abbrev pub settable : List FrameRow → List Used → ℕ → Option Device → Result (Unit {0}) Refusal
settable frames used node None = Ok tt
settable frames used node (Some device) =
    if not (beats device.dictionary (heartbeat_of frames node)) then at_node rules.Heartbeat device.place
    else if has_stray used node device.dictionary then at_node (rules.StaysOn (first_stray used node device.dictionary)) device.place
    else Ok tt

-- the same of all devices, by rising node
unfoldable pub all_settable : List FrameRow → List Used → ℕ → List (Option Device) → Result (Unit {0}) Refusal
all_settable frames used node [] = Ok tt
all_settable frames used node (device ∷ devices) = settable frames used node device >>= λ _. all_settable frames used (node + 1) devices

-- some rate that is wanted is supported by all devices
abbrev pub with_rate : Bool → Result (Unit {0}) Refusal
with_rate false = at_node rules.NoRate 0
with_rate true = Ok tt

-- a stream of the bus where transfers may be disturbed: NMT counts as 001h
abbrev pub up_entry : Entry → Entry
up_entry e = record e { id = up_id e.id }

-- the streams of the bus as they are tested: where transfers may be disturbed, these transfers are one more stream, above all others
abbrev pub through : Option FrameRow → List Entry → List Entry
through None streams = streams
through (Some row) streams = map up_entry streams ++ frame_stream row ∷ []

-- the streams of a network, or the first rule that its PDOs and devices break
unfoldable pub streams_of : List FrameRow → List PdoRow → Equipment → Result (List Entry) Refusal
streams_of frames rows equipment = do
  traffic ← pdos_of equipment.devices (signals_of frames (length rows)) rows
  _ ← all_settable frames traffic.used 0 equipment.devices
  _ ← with_rate (is_some_rate equipment.rates)
  Ok (through (errors_in frames) (traffic.streams ++ fixed_streams frames))

-- what is accepted: the devices by their nodes and the candidates, and the streams
pub record Accepted : Type 0 where
  pub equipment : Equipment
  pub streams : List Entry

-- the devices with the streams of the tables
abbrev pub with_streams : NodeLists → List PdoRow → Equipment → Result Accepted Refusal
with_streams nodes rows equipment = do
  streams ← streams_of nodes.frames rows equipment
  Ok (record { equipment = equipment; streams = streams })

-- the network whose plan may have the rates that are wanted, or the first rule that it breaks
unfoldable pub network_of : List Rate → NodeLists → List PdoRow → List File → Result Accepted Refusal
network_of wanted nodes rows files = do
  equipment ← devices_of wanted files nodes.devices
  with_streams nodes rows equipment

-- devices that some files describe, where some rates are wanted
pub record AreDescribed (rows : List DeviceRow) (equipment : Equipment) : Type 0 where
  pub wanted : List Rate
  pub files : List File
  pub made : devices_of wanted files rows ≡ Ok equipment

-- a network with its tables
pub record Net : Type 0 where
  pub nodes : NodeLists
  pub rows : List PdoRow
  pub equipment : Equipment
  pub set : List Stream

-- the same as it is accepted, where ranges are left out
abbrev pub accepted : Net → Accepted
accepted n = record { equipment = n.equipment; streams = map entry_of n.set }

-- the deadline of the stream at a place, where there is one
abbrev pub deadline_at : List Stream → ℕ → Option ℕ
deadline_at streams k = option_and_then (λ s. s.deadline) (slice_get streams k)

-- the identifiers of SDO frames, from a server and to one
abbrev pub IsSdo : ℕ → Type 0
IsSdo id = ((0x581 ≤ id) × (id ≤ 0x5FF)) ⊎ ((0x601 ≤ id) × (id ≤ 0x67F))

-- the streams begin with the PDOs, whose identifiers are 181h, 182h, .. and which have deadlines; no other stream has an
-- identifier that a PDO may get, and none but those of SDO frames have deadlines
pub record BeginsWith (pdos : ℕ) (streams : List Stream) : Type 0 where
  pub count : pdos ≤ length streams
  pub provisional : (k : ℕ) → k < pdos → of_stream (λ s. s.id) streams k ≡ 0x181 + k
  pub deadlines : (k : ℕ) → k < pdos → IsSome (deadline_at streams k)
  pub outside : (k : ℕ) → pdos ≤ k → k < length streams → (of_stream (λ s. s.id) streams k < 0x181) ⊎ (0x57F < of_stream (λ s. s.id) streams k)
  pub outside_second : (k : ℕ) → pdos ≤ k → k < length streams → IsOutside second_range (of_stream (λ s. s.id) streams k)
  pub dated : (k : ℕ) → pdos ≤ k → k < length streams → IsSome (deadline_at streams k) → IsSdo (of_stream (λ s. s.id) streams k)

-- what holds of each network: it is what its tables, some files and some rates that are wanted make
pub record IsNetwork (n : Net) : Type 0 where
  pub wanted : List Rate
  pub files : List File
  pub made : network_of wanted n.nodes n.rows files ≡ Ok (accepted n)
  pub nodes : IsNodeTable n.nodes
  pub rows : IsPdoTable n.rows
  pub streams : BeginsWith (length n.rows) n.set
  pub signalled : (k : ℕ) → length n.rows ≤ k → k < length n.set → IsSome (deadline_at n.set k) → has_sdo_deadline n.nodes.frames ≡ true
  pub synced : AreSynced n.set
  pub rates : is_some_rate n.equipment.rates ≡ true
