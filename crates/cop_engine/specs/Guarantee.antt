-- What the plan of a network guarantees.
use Rattle.std.specs.Prelude.{◌≡◌, ◌≢◌, ◌≤◌, Bool, true, false, if◌then◌else◌, ℕ, ◌+◌, ◌-◌, ◌*◌, List, Option, None, Some, Ok, option_map, length, get_or, slice_get, All, Contains}
use Rattle.cop_frame.specs.Rate.{ticks_of}
use Rattle.cop_dict.specs.declared.mapping.Direction.TheVariants.{Transmit}
use Rattle.cop_dict.specs.declared.mapping.Mapped.{Mapped}
use Rattle.cop_dict.specs.Mapping.{total_bits}
use Rattle.cop_pdo.specs.Bits.{bytes_for}
use Rattle.cop_pdo.specs.Payload.{payload_of}
use Rattle.cop_rta.specs.declared.streams.Stream.{Stream}
use Rattle.cop_rta.specs.declared.verdicts.Verdict.{Verdict}
use Rattle.cop_rta.specs.declared.verdicts.Verdict.TheVariants.{Long}
use Rattle.cop_rta.specs.Test.{place_by_id}
use Rattle.cop_rta.specs.Verdict.{PassesBy, response_of}
use Rattle.cop_bus.specs.Run.{Instance, IsOnTime}
use Rattle.cop_rta.specs.UpLemmas.{up_id}
use Rattle.cop_rta.specs.Errors.{errors_of}
use Rattle.cop_errors.specs.Errors.{Disturbance}
use Rattle.cop_errors.specs.Extended.{IsRunThrough}
use Rattle.cop_rows.specs.declared.node_table.FrameKind.{FrameKind}
use Rattle.cop_rows.specs.declared.node_table.FrameKind.TheVariants as kinds
use Rattle.cop_rows.specs.declared.pdo_table.PdoRow.{PdoRow}
use Rattle.cop_rows.specs.declared.node_table.FrameRow.{FrameRow}
use Rattle.cop_net.specs.declared.devices.Device.{Device}
use Rattle.cop_net.specs.Fixed.{base_of, size_of, ticks}
use Rattle.cop_net.specs.Pdos.{every_at, sent_by}
use Rattle.cop_net.specs.Signals.{sync_of, errors_in}
use Rattle.cop_plan.specs.Values.{PlanValue, id_of, margin_of}
use Rattle.cop_plan.specs.Plans.{IsPlan, AreAllRefused}
use Rattle.cop_plan.specs.declared.assigning.Outcome.{Outcome}
use Rattle.cop_plan.specs.declared.choices.Asked.{Asked}
use Rattle.cop_plan.specs.declared.assigning.Outcome.TheVariants.{Planned, Refused}
use Rattle.cop_sim.specs.Guarantee.{IsRunOf}
use Rattle.cop_net.specs.Devices.{File}
use Rattle.cop_net.specs.Network.{Net}
use Rattle.cop_engine.specs.declared.plans.Files.{Files}
use Rattle.cop_engine.specs.Plans.{AreFilesOf}

-- whether a row says how rare disturbed transfers are
abbrev pub is_errors : FrameKind → Bool
is_errors kinds.Nmt = false
is_errors kinds.Sync = false
is_errors kinds.Emcy = false
is_errors kinds.SdoResponse = false
is_errors kinds.SdoRequest = false
is_errors kinds.Heartbeat = false
is_errors kinds.Errors = true

-- an identifier as it is tested: where the table of nodes has a row of errors, NMT's counts as 001h
abbrev pub tested_id : Option FrameRow → ℕ → ℕ
tested_id None id = id
tested_id (Some errors) id = up_id id

-- the identifier of the stream of a row: disturbed transfers are above all
abbrev pub frame_id : Option FrameRow → FrameRow → ℕ
frame_id errors row = if is_errors row.kind then 0 else tested_id errors (base_of row.kind + row.node)

-- The stream of a row of the table of nodes that is sent: its identifier and bytes are those of its kind and node, its times are the row's. A row
-- of errors has one too, as disturbed transfers are tested.
pub record IsFrameOf (frames : List FrameRow) (plan : PlanValue) (row : FrameRow) (k : Stream) : Type 0 where
  pub here : Contains plan.streams k
  pub id : k.id ≡ frame_id (errors_in frames) row
  pub bytes : k.bytes ≡ size_of row.kind
  pub period : k.period ≡ ticks row.period
  pub jitter : k.jitter ≡ ticks row.jitter
  pub deadline : k.deadline ≡ option_map ticks row.deadline
  pub every : k.every ≡ 0

-- A PDO that is sent by every n-th SYNC: the table of nodes has SYNC's row, and SYNC's stream is one of the plan's. The PDO's own row has
-- no period, and its period is n times SYNC's.
pub record IsBySync (frames : List FrameRow) (plan : PlanValue) (row : PdoRow) (k : Stream) : Type 0 where
  pub no_period : row.period ≡ 0
  pub sync : FrameRow
  pub is_sync : sync_of frames ≡ Some sync
  pub stream : (s : Stream) × IsFrameOf frames plan sync s
  pub period : k.period ≡ k.every * ticks sync.period

-- a TPDO of a device has this transmission type: the number of the SYNCs after which it is sent, or 0 where events send it
pub record HasType (device : Option Device) (row : PdoRow) (every : ℕ) : Type 0 where
  pub sender : Device
  pub is_sender : device ≡ Some sender
  pub type : every_at sender.dictionary (sent_by row).index ≡ Some every

-- a frame of a TPDO has the bytes of its device's mapping
pub record HasBytes (device : Option Device) (row : PdoRow) (bytes : ℕ) : Type 0 where
  pub sender : Device
  pub is_sender : device ≡ Some sender
  pub mapping : List Mapped
  pub is_mapping : payload_of sender.dictionary Transmit row.tpdo ≡ Ok mapping
  pub is_size : bytes ≡ bytes_for (total_bits mapping)

-- The stream of a row's PDO under a plan: its identifier is the plan's, its jitter and deadline are the row's, and its bytes are those of its
-- device's mapping. Where it is sent by events its period is the row's, and otherwise so many times SYNC's as the transmission type of its
-- device says.
pub record IsPdoOf (net : Net) (plan : PlanValue) (p : ℕ) (row : PdoRow) (k : Stream) : Type 0 where
  pub here : slice_get plan.streams p ≡ Some k
  pub id : k.id ≡ id_of plan.ids p
  pub bytes : HasBytes (get_or net.equipment.devices row.node None) row k.bytes
  pub type : HasType (get_or net.equipment.devices row.node None) row k.every
  pub by_events : k.every ≡ 0 → k.period ≡ ticks row.period
  pub by_sync : 1 ≤ k.every → IsBySync net.nodes.frames plan row k
  pub jitter : k.jitter ≡ ticks row.jitter
  pub deadline : k.deadline ≡ Some (ticks row.deadline)

-- each instance with an identifier ends by a deadline, in every legal run of the plan's streams at its rate in which all of them obey
abbrev pub AreOnTimeIn : PlanValue → ℕ → ℕ → Type 0
AreOnTimeIn plan id deadline =
    (until : ℕ) (run : List Instance) → IsRunOf plan until run → All (λ y. y.id ≡ id → IsOnTime (ticks_of plan.rate) until (Some deadline) y) run

-- The same in every run of the bus in which the plan's streams obey, and disturbed transfers are as rare as the plan counts them: it counts none
-- where its table of nodes has no row of errors.
abbrev pub AreOnTimeThrough : PlanValue → ℕ → ℕ → Type 0
AreOnTimeThrough plan id deadline =
    (until : ℕ) (run : List Instance) (hits : List Disturbance) (events : List ℕ) → IsRunThrough plan.rate plan.streams until run hits events
    → All (λ y. y.id ≡ id → IsOnTime (ticks_of plan.rate) until (Some deadline) y) run

-- Each row's PDO ends each of its transfers within the row's deadline, and by the plan's margin before it, in every legal run of the plan's
-- streams at its rate in which all of them obey. So does each SDO frame for which the table of nodes has a deadline. Each stream that passes
-- ends each of its transfers there within its greatest response. The plan has no streams but those of the rows of both tables. PDOs and SDO
-- frames keep their deadlines through errors too, which are as rare as the row of errors says, if there is one.
pub record MeetsDeadlines (net : Net) (plan : PlanValue) : Type 0 where
  pub pdos : (p : ℕ) (row : PdoRow) → slice_get net.rows p ≡ Some row → (k : Stream) × IsPdoOf net plan p row k
  pub on_time : (p : ℕ) (row : PdoRow) → slice_get net.rows p ≡ Some row → AreOnTimeIn plan (id_of plan.ids p) (ticks row.deadline - margin_of plan)
  pub frames : (row : FrameRow) → Contains net.nodes.frames row → row.period ≢ 0 → (k : Stream) × IsFrameOf net.nodes.frames plan row k
  pub no_other : (f : ℕ) (k : Stream) → length net.rows ≤ f → slice_get plan.streams f ≡ Some k → (row : FrameRow) × Contains net.nodes.frames row × (row.period ≢ 0) × IsFrameOf net.nodes.frames plan row k
  pub frames_on_time : (row : FrameRow) (d : ℕ) → Contains net.nodes.frames row → row.deadline ≡ Some d → AreOnTimeIn plan (base_of row.kind + row.node) (ticks d - margin_of plan)
  pub responses : (p response : ℕ) (k : Stream) → slice_get plan.streams p ≡ Some k → PassesBy (place_by_id plan.streams p plan.rate) response → AreOnTimeIn plan k.id response
  pub errors : (row : FrameRow) → errors_in net.nodes.frames ≡ Some row → (s : Stream) × (errors_of plan.streams ≡ Some s) × (s.period ≡ ticks row.period) × (s.jitter ≡ ticks row.jitter)
  pub through_errors : (p : ℕ) (row : PdoRow) → slice_get net.rows p ≡ Some row → AreOnTimeThrough plan (id_of plan.ids p) (ticks row.deadline - margin_of plan)
  pub frames_through_errors : (row : FrameRow) (d : ℕ) → Contains net.nodes.frames row → row.deadline ≡ Some d → AreOnTimeThrough plan (base_of row.kind + row.node) (ticks d - margin_of plan)

-- the greatest response that the test has for the PDO of a row is within the row's deadline, and bounds each of its transfers
pub record TakesAtMost (plan : PlanValue) (p : ℕ) (row : PdoRow) (response : ℕ) : Type 0 where
  pub greatest : PassesBy (place_by_id plan.streams p plan.rate) response
  pub within : response ≤ ticks row.deadline
  pub bounds : AreOnTimeIn plan (id_of plan.ids p) response
  pub through_errors : AreOnTimeThrough plan (id_of plan.ids p) response

-- So is the response of each row's PDO that the plan's text has.
abbrev pub ArePrinted : Net → Outcome → List Verdict → Type 0
ArePrinted net (Planned plan) verdicts = (p : ℕ) (row : PdoRow) → slice_get net.rows p ≡ Some row → TakesAtMost plan p row (response_of (get_or verdicts p Long))
ArePrinted net (Refused refusals) verdicts = Unit {0}

-- The plan has the slowest candidate, of the rates that are wanted and that all devices support, at which some assignment of identifiers passes the
-- response-time test, it passes there, and each slower rate has a refusal that holds; and its PDOs and SDO frames meet their
-- deadlines. Where there is none, no assignment passes at any rate, and each has such a refusal.
abbrev pub IsGuaranteed : Net → Outcome → Type 0
IsGuaranteed net (Planned plan) = IsPlan net.equipment.rates net.set (length net.rows) plan × MeetsDeadlines net plan
IsGuaranteed net (Refused refusals) = AreAllRefused net.equipment.rates net.set (length net.rows) refusals

-- the files of the plan of the network that the tables and the EDS files say, with what the plan guarantees, and what its text says of
-- responses
pub record AreGuaranteedFiles (asked : Asked) (nodes pdos : List ℕ) (eds : List File) (files : Files) : Type 0 where
  pub exact : AreFilesOf asked nodes pdos eds files
  pub guaranteed : IsGuaranteed exact.network.net exact.outcome
  pub printed : ArePrinted exact.network.net exact.outcome exact.written.verdicts
