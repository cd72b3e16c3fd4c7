-- The stream of each row of the table of PDOs.
use Rattle.std.proofs.Common.{◌≡◌, ℕ, zero, suc, ◌+◌, ◌*◌, ◌≤◌, ◌==◌, Bool, true, false, cond, List, [], ◌∷◌, ◌++◌, length, map, get_or, slice_get, Option, Some, None, Result, Ok, Err, refl, sym, ap, ◌∙◌, subst, arith, mul_assoc}
use Rattle.std.proofs.lemmas.Bool.{ne_eqb, eqb-true}
use Rattle.cop_dict.specs.declared.mapping.Direction.{Direction}
use Rattle.cop_dict.specs.declared.mapping.Direction.TheVariants as directions
use Rattle.cop_dict.specs.declared.mapping.Mapped.{Mapped}
use Rattle.cop_dict.specs.declared.mapping.MappingFault.{MappingFault}
use Rattle.cop_dict.specs.Mapping.{total_bits}
use Rattle.cop_pdo.specs.Bits.{bytes_for}
use Rattle.cop_pdo.specs.Payload.{Layout, payload_of}
use Rattle.cop_frame.specs.declared.rates.Rate.{Rate}
use Rattle.cop_rta.specs.Entries.{Entry, entry_of}
use Rattle.cop_rows.specs.declared.pdo_table.PdoRow.{PdoRow}
use Rattle.cop_rows.specs.declared.node_table.FrameRow.{FrameRow}
use Rattle.cop_rows.specs.Nodes.{NodeLists}
use Rattle.cop_rows.proofs.RangeLemmas.{bind_ok}
use Rattle.cop_net.specs.declared.faults.Refusal.{Refusal}
use Rattle.cop_net.specs.declared.faults.Rule.{Rule}
use Rattle.cop_net.specs.declared.faults.Rule.TheVariants as rules
use Rattle.cop_net.specs.declared.faults.SyncFault.{SyncFault}
use Rattle.cop_net.specs.declared.faults.SyncFault.TheVariants as faults
use Rattle.cop_net.specs.declared.devices.Device.{Device}
use Rattle.cop_net.specs.declared.pdos.Sent.{Sent}
use Rattle.cop_net.specs.declared.signals.Signals.{Signals}
use Rattle.cop_net.specs.Devices.{File, Equipment, devices_of}
use Rattle.cop_net.specs.Rates.{is_some_rate}
use Rattle.cop_net.specs.Settings.{is_usable}
use Rattle.cop_net.specs.Fixed.{ticks, fixed_streams}
use Rattle.cop_net.specs.Pdos.{Traffic, tpdo_of, unsent, laid_out, unless, or_rule, every_at, sync_fault, pace_fault, unless_fault, period_of, transmitted_by, consumer_added, sent_by, pdo_stream, pdo_added, no_traffic, pdos_of}
use Rattle.cop_net.specs.Signals.{ranges_of, signals_of, errors_in}
use Rattle.cop_net.specs.Steps.{folded}
use Rattle.cop_net.specs.Network.{Accepted, Net, IsNetwork, accepted, all_settable, with_rate, through, streams_of, network_of}
use Rattle.cop_net.proofs.ApartLemmas.{pdos_high}
use Rattle.cop_net.proofs.ThroughLemmas.{behind, through_behind}
use Rattle.cop_net.proofs.PdoLemmas.{one_more, pdos_found}
use Rattle.cop_engine.specs.Guarantee.{HasType, HasBytes}

-- what stands in a list stands there with more behind it
pub still_there : {A : Type 0} (xs ys : List A) (k : ℕ) (x : A) → slice_get xs k ≡ Some x → slice_get (xs ++ ys) k ≡ Some x
still_there [] ys k x h = absurd (cc)
still_there (z ∷ xs) ys zero x h = h
still_there (z ∷ xs) ys (suc k) x h = still_there xs ys k x h

pub last_there : {A : Type 0} (xs : List A) (x : A) → slice_get (xs ++ x ∷ []) (length xs) ≡ Some x
last_there [] x = refl
last_there (z ∷ xs) x = last_there xs x

-- ---- what a device sends

the_number : (rule : Rule) (place : ℕ) (o : Option ℕ) (n : ℕ) → or_rule rule place o ≡ Ok n → o ≡ Some n
the_number rule place None n h = cc
the_number rule place (Some m) n h = cc

no_fault : (place : ℕ) (fault : Option SyncFault) (x y : Sent) → unless_fault place fault x ≡ Ok y → (fault ≡ None) × (x ≡ y)
no_fault place None x y h = (refl, cc)
no_fault place (Some fault) x y h = cc

the_layout : (rule : MappingFault → Rule) (place : ℕ) (direction : Direction) (r : Result (List Mapped) MappingFault) (layout : Layout) → laid_out rule place direction r ≡ Ok layout → r ≡ Ok layout.entries
the_layout rule place direction (Ok entries) layout h =
    let whole : ◌≡◌ {A = Result Layout Refusal} (Ok (record { direction = direction; entries = entries })) (Ok layout) = h in
    let same : record { direction = direction; entries = entries } ≡ layout = cc in
    ap (λ (l : Layout). Ok l.entries) same
the_layout rule place direction (Err fault) layout h = cc

unbroken : (rule : Rule) (place : ℕ) (b : Bool) (x y : Layout) → unless rule place b x ≡ Ok y → x ≡ y
unbroken rule place true x y h = cc
unbroken rule place false x y h = cc

-- a TPDO has the bytes of its mapping and is sent as its transmission type says, and its row and SYNC's go with that
pub record IsAsSent (signals : Signals) (device : Option Device) (row : PdoRow) (sent : Sent) : Type 0 where
  pub bytes : HasBytes device row (bytes_for (total_bits sent.mapping.entries))
  pub type : HasType device row sent.every
  pub paced : pace_fault signals.sync row sent.every ≡ None

as_sent : (signals : Signals) (place : ℕ) (row : PdoRow) (device : Option Device) (sent : Sent) → transmitted_by signals place row device ≡ Ok sent → IsAsSent signals device row sent
as_sent signals place row None sent h = cc
as_sent signals place row (Some device) sent h =
    let index = (sent_by row).index in
    let payload = payload_of device.dictionary directions.Transmit row.tpdo in
    let p = bind_ok (laid_out unsent place directions.Transmit payload) _ sent h in
    let q = bind_ok (unless (rules.CobId (tpdo_of row)) place (is_usable device.dictionary index (ranges_of signals)) p.0) _ sent p.2 in
    let r = bind_ok (or_rule rules.Transmission place (every_at device.dictionary index)) _ sent q.2 in
    let n = no_fault place (pace_fault signals.sync row r.0) (record { mapping = q.0; every = r.0 }) sent r.2 in
    let every : r.0 ≡ sent.every = ap (λ (s : Sent). s.every) n.1 in
    let type : every_at device.dictionary index ≡ Some r.0 = the_number rules.Transmission place (every_at device.dictionary index) r.0 r.1 in
    let layout : p.0 ≡ sent.mapping = unbroken (rules.CobId (tpdo_of row)) place (is_usable device.dictionary index (ranges_of signals)) p.0 q.0 q.1 ∙ ap (λ (s : Sent). s.mapping) n.1 in
    record {
      bytes = record {
        sender = device;
        is_sender = refl;
        mapping = sent.mapping.entries;
        is_mapping = the_layout unsent place directions.Transmit payload p.0 p.1 ∙ ap (λ (l : Layout). Ok l.entries) layout;
        is_size = refl;
      };
      type = record { sender = device; is_sender = refl; type = type ∙ ap (λ (m : ℕ). Some m) every };
      paced = subst (λ (m : ℕ). pace_fault signals.sync row m ≡ None) every n.0;
    }

-- where events send it its period is its row's
pub by_events : (sync : Option FrameRow) (row : PdoRow) (every : ℕ) → every ≡ 0 → period_of sync row every ≡ row.period
unfolding period_of
by_events sync row every none = rw none refl

by_row : (sync : Option FrameRow) (row : PdoRow) (every : ℕ) (b : Bool) → (row.period == 0) ≡ b → (every == 0) ≡ false → cond b (sync_fault sync row every) (Some faults.OwnPeriod) ≡ None
    → (row.period ≡ 0) × (s : FrameRow) × (sync ≡ Some s) × (ticks (period_of sync row every) ≡ every * ticks s.period)
unfolding period_of
by_row sync row every false own some h = cc
by_row None row every true own some h = cc
by_row (Some s) row every true own some h = (eqb-true row.period 0 own, s, refl, rw some (mul_assoc every s.period 4))

-- and otherwise it is so many times SYNC's
pub by_sync : (sync : Option FrameRow) (row : PdoRow) (every : ℕ) → 1 ≤ every → pace_fault sync row every ≡ None
    → (row.period ≡ 0) × (s : FrameRow) × (sync ≡ Some s) × (ticks (period_of sync row every) ≡ every * ticks s.period)
unfolding pace_fault
by_sync sync row every some h =
    let none : (every == 0) ≡ false = ne_eqb every 0 (λ e. omega (arith, some, e)) in
    by_row sync row every (row.period == 0) refl none (rw none at h)

-- ---- the streams

-- a PDO's stream is what its row, its device and the table of nodes make of it
pub record IsRowStream (signals : Signals) (devices : List (Option Device)) (k : ℕ) (row : PdoRow) (streams : List Entry) : Type 0 where
  pub sent : Sent
  pub there : slice_get streams k ≡ Some (pdo_stream signals k sent row)
  pub as_sent : IsAsSent signals (get_or devices row.node None) row sent

module _ (devices : List (Option Device)) (signals : Signals) where
  -- one row more is one stream more
  one_row : (found more : Traffic) (row : PdoRow) → pdo_added devices signals found row ≡ Ok more
      → (sent : Sent) × (more.streams ≡ found.streams ++ pdo_stream signals (length found.streams) sent row ∷ []) × IsAsSent signals (get_or devices row.node None) row sent
  one_row found more row h =
      let p = bind_ok (transmitted_by signals (length found.streams + 1) row (get_or devices row.node None)) _ more h in
      let q = bind_ok (folded (consumer_added devices signals (length found.streams + 1) p.0.mapping) (found.used ++ sent_by row ∷ []) row.consumers) _ more p.2 in
      let stream = pdo_stream signals (length found.streams) p.0 row in
      let whole : ◌≡◌ {A = Result Traffic Refusal} (Ok (record { streams = found.streams ++ stream ∷ []; used = q.0 })) (Ok more) = q.2 in
      let same : record { streams = found.streams ++ stream ∷ []; used = q.0 } ≡ more = cc in
      (p.0, ap (λ (t : Traffic). t.streams) (sym same), as_sent signals (length found.streams + 1) row (get_or devices row.node None) p.0 p.1)

  -- the streams of the rows before stay
  earlier : (rows : List PdoRow) (found more : Traffic) → folded (pdo_added devices signals) found rows ≡ Ok more → (k : ℕ) (e : Entry) → slice_get found.streams k ≡ Some e → slice_get more.streams k ≡ Some e
  unfolding folded
  earlier [] found more h k e there = let same : found ≡ more = cc in subst (λ (t : Traffic). slice_get t.streams k ≡ Some e) same there
  earlier (row ∷ rows) found more h k e there =
      let p = bind_ok (pdo_added devices signals found row) (λ t. folded (pdo_added devices signals) t rows) more h in
      let s = one_row found p.0 row p.1 in
      earlier rows p.0 more p.2 k e (subst (λ (es : List Entry). slice_get es k ≡ Some e) (sym s.1) (still_there found.streams (pdo_stream signals (length found.streams) s.0 row ∷ []) k e there))

  from_row : (rows : List PdoRow) (found more : Traffic) → folded (pdo_added devices signals) found rows ≡ Ok more → (j : ℕ) (row : PdoRow) → slice_get rows j ≡ Some row
      → (k : ℕ) → k ≡ length found.streams + j → IsRowStream signals devices k row more.streams
  unfolding folded
  from_row [] found more h j row there k e = absurd (cc)
  from_row (first ∷ rows) found more h zero row there k e =
      let same : first ≡ row = cc in
      let p = bind_ok (pdo_added devices signals found first) (λ t. folded (pdo_added devices signals) t rows) more h in
      let s = one_row found p.0 first p.1 in
      let place : length found.streams ≡ k = omega (arith, e) in
      let stream = pdo_stream signals (length found.streams) s.0 first in
      let here : slice_get p.0.streams (length found.streams) ≡ Some stream = subst (λ (es : List Entry). slice_get es (length found.streams) ≡ Some stream) (sym s.1) (last_there found.streams stream) in
      let kept : slice_get more.streams (length found.streams) ≡ Some stream = earlier rows p.0 more p.2 (length found.streams) stream here in
      let own : IsRowStream signals devices (length found.streams) first more.streams = record { sent = s.0; there = kept; as_sent = s.2 } in
      subst (λ (n : ℕ). IsRowStream signals devices n row more.streams) place (subst (λ (r : PdoRow). IsRowStream signals devices (length found.streams) r more.streams) same own)
  from_row (first ∷ rows) found more h (suc j) row there k e =
      let p = bind_ok (pdo_added devices signals found first) (λ t. folded (pdo_added devices signals) t rows) more h in
      let count = one_more devices signals found p.0 first (length found.streams) p.1 refl in
      from_row rows p.0 more p.2 j row there k (omega (arith, e, count))

  of_row : (rows : List PdoRow) (found : Traffic) → pdos_of devices signals rows ≡ Ok found → (k : ℕ) (row : PdoRow) → slice_get rows k ≡ Some row → IsRowStream signals devices k row found.streams
  unfolding pdos_of
  of_row rows found h k row there = from_row rows no_traffic found h k row there k (omega arith)

-- the streams of a network are those of its rows, and then those of the fixed identifiers as they are tested, and disturbed transfers
pub record AreStreamsOf (frames : List FrameRow) (rows : List PdoRow) (equipment : Equipment) (streams : List Entry) : Type 0 where
  pub pdos : List Entry
  pub count : length pdos ≡ length rows
  pub parts : streams ≡ pdos ++ behind frames
  pub each : (k : ℕ) (row : PdoRow) → slice_get rows k ≡ Some row → IsRowStream (signals_of frames (length rows)) equipment.devices k row pdos

streams_are : (frames : List FrameRow) (rows : List PdoRow) (equipment : Equipment) (streams : List Entry) → streams_of frames rows equipment ≡ Ok streams → AreStreamsOf frames rows equipment streams
unfolding streams_of
streams_are frames rows equipment streams ok =
    let signals = signals_of frames (length rows) in
    let p = bind_ok (pdos_of equipment.devices signals rows) _ streams ok in
    let q = bind_ok (all_settable frames p.0.used 0 equipment.devices) _ streams p.2 in
    let r = bind_ok (with_rate (is_some_rate equipment.rates)) _ streams q.2 in
    let whole : ◌≡◌ {A = Result (List Entry) Refusal} (Ok (through (errors_in frames) (p.0.streams ++ fixed_streams frames))) (Ok streams) = r.2 in
    let all : streams ≡ through (errors_in frames) (p.0.streams ++ fixed_streams frames) = cc in
    let found = pdos_found equipment.devices signals rows p.0 p.1 in
    record {
      pdos = p.0.streams;
      count = found.1;
      parts = all ∙ through_behind (errors_in frames) p.0.streams (fixed_streams frames) (pdos_high p.0.streams found.0);
      each = of_row equipment.devices signals rows p.0 p.1;
    }

network_parts : (wanted : List Rate) (nodes : NodeLists) (rows : List PdoRow) (files : List File) (made : Accepted) → network_of wanted nodes rows files ≡ Ok made → streams_of nodes.frames rows made.equipment ≡ Ok made.streams
unfolding network_of
network_parts wanted nodes rows files made ok =
    let p = bind_ok (devices_of wanted files nodes.devices) _ made ok in
    let q = bind_ok (streams_of nodes.frames rows p.0) _ made p.2 in
    let whole : ◌≡◌ {A = Result Accepted Refusal} (Ok (record { equipment = p.0; streams = q.0 })) (Ok made) = q.2 in
    let same : record { equipment = p.0; streams = q.0 } ≡ made = cc in
    subst (λ (m : Accepted). streams_of nodes.frames rows m.equipment ≡ Ok m.streams) same q.1

module _ (net : Net) (is : IsNetwork net) where
  pub network_streams : AreStreamsOf net.nodes.frames net.rows net.equipment (map entry_of net.set)
  network_streams = streams_are net.nodes.frames net.rows net.equipment (map entry_of net.set) (network_parts is.wanted net.nodes net.rows is.files (accepted net) is.made)

  pub row_stream : (k : ℕ) (row : PdoRow) → slice_get net.rows k ≡ Some row → IsRowStream (signals_of net.nodes.frames (length net.rows)) net.equipment.devices k row (map entry_of net.set)
  row_stream k row there =
      let s = network_streams.each k row there in
      let stream = pdo_stream (signals_of net.nodes.frames (length net.rows)) k s.sent row in
      record {
        sent = s.sent;
        there = subst (λ (es : List Entry). slice_get es k ≡ Some stream) (sym network_streams.parts) (still_there network_streams.pdos (behind net.nodes.frames) k stream s.there);
        as_sent = s.as_sent;
      }
