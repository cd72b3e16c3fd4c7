-- What holds of each network.
use Rattle.std.proofs.Common.{IfOk, Err, ◌≡◌, ℕ, ◌+◌, ◌-◌, ◌<◌, ◌≤◌, Bool, true, false, List, ◌++◌, length, get_or, slice_get, map, Option, Some, None, IsSome, All, Result, Ok, option_map, option_and_then, refl, sym, ap, subst, ◌∙◌, arith, length-append}
use Rattle.std.specs.Option.{option_map_or}
use Rattle.std.proofs.lemmas.Option.{slice_get-map}
use Rattle.std.proofs.lemmas.List.{length-map}
use Rattle.std.proofs.Math.ListN.{get_or-append}
use Rattle.std.proofs.Math.Seq.{get_or-append_right}
use Rattle.cop_frame.specs.declared.rates.Rate.{Rate}
use Rattle.cop_rows.specs.declared.node_table.DeviceRow.{DeviceRow}
use Rattle.cop_rows.specs.declared.node_table.FrameRow.{FrameRow}
use Rattle.cop_rows.specs.declared.node_table.FrameKind.{FrameKind}
use Rattle.cop_rows.specs.declared.node_table.FrameKind.TheVariants as kinds
use Rattle.cop_rows.specs.declared.pdo_table.PdoRow.{PdoRow}
use Rattle.cop_rows.specs.Pdos.{IsPdoTable}
use Rattle.cop_rows.specs.Nodes.{NodeLists, IsNodeTable, IsNodeOf, HasDevice}
use Rattle.cop_rta.specs.declared.streams.Stream.{Stream}
use Rattle.cop_rta.specs.Entries.{Entry, entry_of}
use Rattle.cop_rta.specs.Test.{of_stream}
use Rattle.cop_net.specs.declared.faults.Refusal.{Refusal}
use Rattle.cop_net.specs.Rates.{is_some_rate}
use Rattle.cop_net.specs.Sets.{AreOneSet}
use Rattle.cop_net.specs.Fixed.{IsOwner, IsTimed, fixed_streams}
use Rattle.cop_net.specs.Devices.{File, Equipment, devices_of}
use Rattle.cop_net.specs.Pdos.{ArePdos, IsPaced, pdos_of}
use Rattle.cop_rta.specs.Ranges as ranges
use Rattle.cop_rta.specs.Greatest.{AreSynced}
use Rattle.cop_net.specs.Signals.{signals_of, sync_of, errors_in, has_sdo_deadline}
use Rattle.cop_net.specs.Network.{through, all_settable, with_rate, streams_of, deadline_at, IsSdo, BeginsWith, Accepted, network_of, accepted}
use Rattle.cop_rows.proofs.RangeLemmas.{bind_ok}
use Rattle.cop_net.proofs.PdoLemmas.{pdos_found}
use Rattle.cop_net.proofs.ThroughLemmas.{through_behind, behind}
use Rattle.cop_net.proofs.ApartLemmas.{IsOutside, behind_outside, behind_outside_second, pdos_high, one_set_behind}
use Rattle.cop_net.proofs.SyncLemmas.{there, network_synced}
use Rattle.cop_net.proofs.DatedLemmas.{behind_dated, behind_signalled}

-- a node with a device row
node_of_device : (devices : List DeviceRow) (node : ℕ) → All (λ d. (1 ≤ d.node) × (d.node ≤ 127)) devices → HasDevice devices node → (1 ≤ node) × (node ≤ 127)
node_of_device devices node all h =
    let p = all h.0 h.1 h.2 in
    let e = ap (λ (d : DeviceRow). d.node) h.3 in
    (omega (arith, p.0, e, h.4), omega (arith, p.1, e, h.4))

node_of_kind : (devices : List DeviceRow) (kind : FrameKind) (node : ℕ) → All (λ d. (1 ≤ d.node) × (d.node ≤ 127)) devices → IsNodeOf devices kind node → IsOwner kind node × (node ≤ 127)
node_of_kind devices kinds.Nmt node all h = (h, omega arith)
node_of_kind devices kinds.Sync node all h = (h, omega arith)
node_of_kind devices kinds.Emcy node all h = node_of_device devices node all h
node_of_kind devices kinds.SdoResponse node all h = node_of_device devices node all h
node_of_kind devices kinds.SdoRequest node all h = node_of_device devices node all h
node_of_kind devices kinds.Heartbeat node all h = node_of_device devices node all h
node_of_kind devices kinds.Errors node all h = (h, omega arith)

-- the ranges of the rows of a table
pub timed : (table : NodeLists) → IsNodeTable table → All IsTimed table.frames
timed table h = λ k d lt.
    let f = h.frames k d lt in
    let node = node_of_kind table.devices (get_or table.frames k d).kind (get_or table.frames k d).node h.nodes f.node in record {
      node = node.1;
      owner = node.0;
      period = f.period;
      jitter = f.jitter;
      deadline = f.deadline;
    }

pub device_nodes : (devices : List DeviceRow) → All (λ d. (1 ≤ d.node) × (d.node ≤ 127)) devices → All (λ d. d.node ≤ 127) devices
device_nodes devices h = λ k d lt. (h k d lt).1

id_of_stream : (set : List Stream) (k : ℕ) → of_stream (λ s. s.id) set k ≡ option_map_or (λ e. e.id) (slice_get (map entry_of set) k) 0
id_of_stream set k = rw (slice_get-map entry_of set k) (by_found (slice_get set k))
  where
    by_found : (o : Option Stream) → option_map_or (λ s. s.id) o 0 ≡ option_map_or (λ e. e.id) (option_map entry_of o) 0
    by_found None = refl
    by_found (Some s) = refl

deadline_of_stream : (set : List Stream) (k : ℕ) → deadline_at set k ≡ option_and_then (λ e. e.deadline) (slice_get (map entry_of set) k)
deadline_of_stream set k = rw (slice_get-map entry_of set k) (by_found (slice_get set k))
  where
    by_found : (o : Option Stream) → option_and_then (λ s. s.deadline) o ≡ option_and_then (λ e. e.deadline) (option_map entry_of o)
    by_found None = refl
    by_found (Some s) = refl

-- what holds of the second streams, at each of them
later : (P : Entry → Type 0) (set : List Stream) (xs ys : List Entry) → map entry_of set ≡ xs ++ ys → All P ys → (k : ℕ) → length xs ≤ k → k < length set
    → (f : Entry) × P f × (slice_get (map entry_of set) k ≡ Some f)
later P set xs ys e all k past lt =
    let total : length set ≡ length xs + length ys = sym (length-map set entry_of) ∙ ap length e ∙ length-append xs ys in
    let t = there (xs ++ ys) k (omega (arith, length-append xs ys)) in
    let own : t.0 ≡ get_or ys (k - length xs) t.0 = t.2 ∙ get_or-append_right xs ys k t.0 (omega arith) in
    let holds : P t.0 = subst P (sym own) (all (k - length xs) t.0 (omega arith)) in
    (t.0, holds, ap (λ (fs : List Entry). slice_get fs k) e ∙ t.1)

begins : (pdos : ℕ) (set : List Stream) (xs ys : List Entry) → map entry_of set ≡ xs ++ ys → length xs ≡ pdos → ArePdos xs → All (λ e. IsOutside e.id) ys
    → All (λ e. ranges.IsOutside ranges.second_range e.id) ys → All (λ e. IsSome e.deadline → IsSdo e.id) ys → BeginsWith pdos set
begins pdos set xs ys e size are out below dated =
    let total : length set ≡ length xs + length ys = sym (length-map set entry_of) ∙ ap length e ∙ length-append xs ys in record {
      count = omega arith;
      provisional = λ k lt.
          let t = there (xs ++ ys) k (omega (arith, length-append xs ys)) in
          let own : t.0 ≡ get_or xs k t.0 = t.2 ∙ get_or-append xs ys t.0 k (omega arith) in
          let id : t.0.id ≡ 0x181 + k = ap (λ (x : Entry). x.id) own ∙ (are k t.0 (omega arith)).0 in
          id_of_stream set k ∙ rw (e, t.1) id;
      deadlines = λ k lt.
          let t = there (xs ++ ys) k (omega (arith, length-append xs ys)) in
          let own : t.0 ≡ get_or xs k t.0 = t.2 ∙ get_or-append xs ys t.0 k (omega arith) in
          let has : IsSome t.0.deadline = subst (λ (x : Entry). IsSome x.deadline) (sym own) (are k t.0 (omega arith)).1 in
          rw (deadline_of_stream set k, e, t.1) has;
      outside = λ k past lt.
          let t = later (λ f. IsOutside f.id) set xs ys e out k (omega arith) lt in
          rw (id_of_stream set k, t.2) t.1;
      outside_second = λ k past lt.
          let t = later (λ f. ranges.IsOutside ranges.second_range f.id) set xs ys e below k (omega arith) lt in
          rw (id_of_stream set k, t.2) t.1;
      dated = λ k past lt some.
          let t = later (λ f. IsSome f.deadline → IsSdo f.id) set xs ys e dated k (omega arith) lt in
          rw (id_of_stream set k, t.2) (t.1 (rw (deadline_of_stream set k, t.2) at some));
    }

with_rate_ok : (b : Bool) (u : Unit {0}) → with_rate b ≡ Ok u → b ≡ true
with_rate_ok true u h = refl
with_rate_ok false u h = cc

-- the streams of a network are those of its PDOs and then those behind them, and it has a rate
streams_are : (frames : List FrameRow) (rows : List PdoRow) (equipment : Equipment) (streams : List Entry) → streams_of frames rows equipment ≡ Ok streams
    → (pdos : List Entry) × ArePdos pdos × (length pdos ≡ length rows) × (streams ≡ pdos ++ behind frames) × (is_some_rate equipment.rates ≡ true) × All (IsPaced (sync_of frames)) pdos
unfolding streams_of
streams_are frames rows equipment streams ok =
    let p = bind_ok (pdos_of equipment.devices (signals_of frames (length rows)) rows) _ streams ok in
    let q = bind_ok (all_settable frames p.0.used 0 equipment.devices) _ streams p.2 in
    let r = bind_ok (with_rate (is_some_rate equipment.rates)) _ streams q.2 in
    let whole : ◌≡◌ {A = Result (List Entry) Refusal} (Ok (through (errors_in frames) (p.0.streams ++ fixed_streams frames))) (Ok streams) = r.2 in
    let all : streams ≡ through (errors_in frames) (p.0.streams ++ fixed_streams frames) = cc in
    let s = pdos_found equipment.devices (signals_of frames (length rows)) rows p.0 p.1 in
    let parts : streams ≡ p.0.streams ++ behind frames = all ∙ through_behind (errors_in frames) p.0.streams (fixed_streams frames) (pdos_high p.0.streams s.0) in
    (p.0.streams, s.0, s.1, parts, with_rate_ok (is_some_rate equipment.rates) r.0 r.1, s.2)

-- what is accepted begins with its PDOs, a deadline of another stream is a row's, it has a rate, and SYNC where streams are sent by it
pub network_streams : (frames : List FrameRow) (rows : List PdoRow) (equipment : Equipment) (set : List Stream) → All IsTimed frames → length rows ≤ 512
    → streams_of frames rows equipment ≡ Ok (map entry_of set)
    → BeginsWith (length rows) set × ((k : ℕ) → length rows ≤ k → k < length set → IsSome (deadline_at set k) → has_sdo_deadline frames ≡ true) × (is_some_rate equipment.rates ≡ true) × AreSynced set
network_streams frames rows equipment set h le ok =
    let s = streams_are frames rows equipment (map entry_of set) ok in (
      begins (length rows) set s.0 (behind frames) s.3 s.2 s.1 (behind_outside frames h) (behind_outside_second frames h) (behind_dated frames h),
      (λ k past lt some.
          let t = later (λ f. IsSome f.deadline → has_sdo_deadline frames ≡ true) set s.0 (behind frames) s.3 (behind_signalled frames) k (omega (arith, s.2)) lt in
          t.1 (rw (deadline_of_stream set k, t.2) at some)),
      s.4,
      network_synced frames set s.0 h s.3 (one_set_behind s.0 frames s.1 (omega (arith, s.2, le)) h) s.5,
    )

-- what the devices and the streams make
pub made : (wanted : List Rate) (nodes : NodeLists) (rows : List PdoRow) (files : List File) (equipment : Equipment) (set : List Stream) → devices_of wanted files nodes.devices ≡ Ok equipment
    → streams_of nodes.frames rows equipment ≡ Ok (map entry_of set)
    → network_of wanted nodes rows files ≡ Ok (accepted (record { nodes = nodes; rows = rows; equipment = equipment; set = set }))
unfolding network_of
made wanted nodes rows files equipment set devices streams = rw (devices, streams) refl

streams_one_set : (frames : List FrameRow) (rows : List PdoRow) (equipment : Equipment) (streams : List Entry) → All IsTimed frames → length rows ≤ 512
    → streams_of frames rows equipment ≡ Ok streams → AreOneSet streams
streams_one_set frames rows equipment streams h le ok =
    let s = streams_are frames rows equipment streams ok in subst AreOneSet (sym s.3) (one_set_behind s.0 frames s.1 (omega (arith, s.2, le)) h)

one_set_made : (wanted : List Rate) (nodes : NodeLists) (rows : List PdoRow) (files : List File) (made : Accepted) → IsNodeTable nodes → length rows ≤ 512 → network_of wanted nodes rows files ≡ Ok made → AreOneSet made.streams
unfolding network_of
one_set_made wanted nodes rows files made table le ok =
    let p = bind_ok (devices_of wanted files nodes.devices) _ made ok in
    let q = bind_ok (streams_of nodes.frames rows p.0) _ made p.2 in
    let whole : ◌≡◌ {A = Result Accepted Refusal} (Ok (record { equipment = p.0; streams = q.0 })) (Ok made) = q.2 in
    let same : record { equipment = p.0; streams = q.0 } ≡ made = cc in
    subst AreOneSet (ap (λ (m : Accepted). m.streams) same) (streams_one_set nodes.frames rows p.0 q.0 (timed nodes table) le q.1)

of_accepted : {A : Type 0} (P : A → Type 0) (r : Result A Refusal) → ((x : A) → r ≡ Ok x → P x) → IfOk r P
of_accepted P (Ok x) h = h x refl
of_accepted P (Err e) h = tt

-- one set can have the streams of each network that is accepted
pub accepted_one_set : (wanted : List Rate) (nodes : NodeLists) (rows : List PdoRow) (files : List File) → IsNodeTable nodes → IsPdoTable rows → IfOk (network_of wanted nodes rows files) (λ made. AreOneSet made.streams)
accepted_one_set wanted nodes rows files table pdos =
    of_accepted (λ made. AreOneSet made.streams) (network_of wanted nodes rows files) (λ made ok. one_set_made wanted nodes rows files made table pdos.count ok)
