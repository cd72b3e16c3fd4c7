-- The devices of an accepted network admit what a plan sets in them.
use Rattle.std.proofs.Common.{◌≡◌, ℕ, zero, suc, ◌+◌, ◌^◌, ◌<◌, inl, Bool, true, false, not, cond, ◌&&◌, ◌||◌, ◌==◌, List, [], ◌∷◌, ◌++◌, length, get_or, map, find, replicate, All, Contains, Option, Some, None, option_map, Result, Ok, Err, refl, sym, ap, subst, ◌∙◌, arith, true≢false}
use Rattle.std.specs.Option.{option_and_then}
use Rattle.std.specs.Result.{is_ok}
use Rattle.std.specs.List.{list_any}
use Rattle.std.proofs.lemmas.Bool.{or_parts}
use Rattle.std.proofs.lemmas.Bool.Decides.{nat_tests}
use Rattle.std.proofs.lemmas.List.Elements.{All-nil, All-cons, All-append, All-head, All-tail}
use Rattle.cop_frame.specs.declared.rates.Rate.{Rate}
use Rattle.cop_dict.specs.declared.abort.Abort.{Abort}
use Rattle.cop_dict.specs.declared.mapping.Direction.TheVariants as directions
use Rattle.cop_dict.specs.Find.{Entry, entry_at, unsigned32_of, IsSorted}
use Rattle.cop_dict.specs.Pdo.{is_cob_id, exists_by, keeps_pdo}
use Rattle.cop_dict.specs.Dict.{◌>>=◌, written, initial, initial_communication}
use Rattle.cop_dict.proofs.BuildLemmas.{built_sorted}
use Rattle.cop_dict.proofs.BuiltLemmas.{built_stays}
use Rattle.cop_dict.proofs.DictLemmas.{own_place}
use Rattle.cop_pdo.specs.CobIds.{off, on}
use Rattle.cop_pdo.specs.Payload.{Layout, communication_of, payload_of, is_same_layout}
use Rattle.cop_rows.specs.declared.node_table.DeviceRow.{DeviceRow}
use Rattle.cop_rows.specs.declared.node_table.FrameRow.{FrameRow}
use Rattle.cop_rows.specs.declared.pdo_table.Consumer.{Consumer}
use Rattle.cop_rows.specs.declared.pdo_table.PdoRow.{PdoRow}
use Rattle.cop_net.specs.declared.devices.Device.{Device}
use Rattle.cop_net.specs.declared.faults.Refusal.{Refusal}
use Rattle.cop_net.specs.declared.faults.Rule.{Rule}
use Rattle.cop_net.specs.declared.faults.ReceiveFault.TheVariants as receiving
use Rattle.cop_net.specs.declared.faults.Rule.TheVariants as rules
use Rattle.cop_net.specs.declared.uses.Used.{Used}
use Rattle.cop_net.specs.Devices.{File, Equipment, no_device, devices_of}
use Rattle.cop_net.specs.Faults.{at_node}
use Rattle.cop_net.specs.Heartbeats.{heartbeat_of}
use Rattle.cop_net.specs.Network.{Net, IsNetwork, accepted, has_stray, first_stray, settable, all_settable, streams_of, network_of}
use Rattle.cop_net.specs.Pdos.{Traffic, tpdo_of, rpdo_of, unsent, unread, laid_out, unless, transmitted_by, received_by, sent_by, taken_by, consumer_added, pdo_added, no_traffic, pdos_of}
use Rattle.cop_net.specs.declared.pdos.Sent.{Sent}
use Rattle.cop_net.specs.declared.signals.Signals.{Signals}
use Rattle.cop_net.specs.Signals.{signals_of, ranges_where, ranges_of, IsPdoId}
use Rattle.cop_net.specs.Settings.{word, goes_off, takes, is_usable, stays_on, beats}
use Rattle.cop_net.proofs.SettingLemmas.{usable_takes, small_id}
use Rattle.cop_net.specs.Steps.{folded}
use Rattle.cop_net.specs.Uses.{is_record, is_used}
use Rattle.cop_rows.proofs.RangeLemmas.{bind_ok}
use Rattle.cop_dcf.specs.Identifiers.{id_at, uses}
use Rattle.cop_dcf.specs.Settings.{dictionary_of}
use Rattle.cop_dcf.proofs.DeviceLemmas.{IsDevice, equipped, others, device, dictionary, beating}
use Rattle.cop_boot.specs.PlanSettings.{Admits}
use Rattle.cop_setup.proofs.CobIdLemmas.{sub_of}

not_both : (a b : Bool) → (a && not b) ≡ false → b ≡ false → a ≡ false
not_both true true h e = absurd (true≢false e)
not_both true false h e = h
not_both false b h e = refl

-- ---- a device whose PDO takes each identifier

record IsUsableAt (devices : List (Option Device)) (node index : ℕ) : Type 0 where
  own : Device
  there : get_or devices node None ≡ Some own
  second : Bool
  usable : is_usable own.dictionary index (ranges_where second) ≡ true

abbrev AreUsable : List (Option Device) → List Used → Type 0
AreUsable devices used = All (λ u. IsUsableAt devices u.node u.index) used

unless_ok : {A : Type 0} (rule : Rule) (place : ℕ) (b : Bool) (x y : A) → unless rule place b x ≡ Ok y → b ≡ true
unless_ok rule place true x y h = refl
unless_ok rule place false x y h = cc

transmitted_usable : (devices : List (Option Device)) (signals : Signals) (node place : ℕ) (row : PdoRow) (o : Option Device) (sent : Sent) → get_or devices node None ≡ o
    → transmitted_by signals place row o ≡ Ok sent → IsUsableAt devices node (communication_of directions.Transmit row.tpdo)
transmitted_usable devices signals node place row None sent there h = cc
transmitted_usable devices signals node place row (Some d) sent there h =
    let p = bind_ok (laid_out unsent place directions.Transmit (payload_of d.dictionary directions.Transmit row.tpdo)) _ sent h in
    let q = bind_ok (unless (rules.CobId (tpdo_of row)) place (is_usable d.dictionary (communication_of directions.Transmit row.tpdo) (ranges_of signals)) p.0) _ sent p.2 in
    record { own = d; there = there; second = signals.is_second_open; usable = unless_ok (rules.CobId (tpdo_of row)) place (is_usable d.dictionary (communication_of directions.Transmit row.tpdo) (ranges_of signals)) p.0 q.0 q.1 }

received_usable : (devices : List (Option Device)) (signals : Signals) (place : ℕ) (consumer : Consumer) (is_taken : Bool) (sent layout : Layout) (o : Option Device) → get_or devices consumer.node None ≡ o → received_by signals place consumer is_taken sent o ≡ Ok layout
    → IsUsableAt devices consumer.node (communication_of directions.Receive consumer.rpdo)
received_usable devices signals place consumer is_taken sent layout None there h = cc
received_usable devices signals place consumer is_taken sent layout (Some d) there h =
    let p = bind_ok (laid_out (unread consumer) place directions.Receive (payload_of d.dictionary directions.Receive consumer.rpdo)) _ layout h in
    let q = bind_ok (unless (rules.Receive consumer receiving.Taken) place (not is_taken) p.0) _ layout p.2 in
    let r = bind_ok (unless (rules.Receive consumer receiving.OtherLayout) place (is_same_layout sent q.0) q.0) _ layout q.2 in
    record { own = d; there = there; second = signals.is_second_open; usable = unless_ok (rules.CobId (rpdo_of consumer)) place (is_usable d.dictionary (communication_of directions.Receive consumer.rpdo) (ranges_of signals)) r.0 layout r.2 }

-- ---- each record that the tables use

abbrev IsUsed : List (Option Device) → Used → Type 0
IsUsed devices u = IsUsableAt devices u.node u.index

pushed : (devices : List (Option Device)) (used : List Used) (u : Used) → AreUsable devices used → IsUsed devices u → AreUsable devices (used ++ u ∷ [])
pushed devices used u all one = All-append (IsUsed devices) used (u ∷ []) all (All-cons (IsUsed devices) u [] one (All-nil (IsUsed devices)))

consumer_usable : (devices : List (Option Device)) (signals : Signals) (place : ℕ) (sent : Layout) (used more : List Used) (consumer : Consumer) → consumer_added devices signals place sent used consumer ≡ Ok more
    → IsUsed devices (taken_by consumer) × (used ++ taken_by consumer ∷ [] ≡ more)
consumer_usable devices signals place sent used more consumer h =
    let taken : Bool = is_used used consumer.node (communication_of directions.Receive consumer.rpdo) in
    let p = bind_ok (received_by signals place consumer taken sent (get_or devices consumer.node None)) _ more h in
    let made : ◌≡◌ {A = Result (List Used) Refusal} (Ok (used ++ taken_by consumer ∷ [])) (Ok more) = p.2 in
    (received_usable devices signals place consumer taken sent p.0 (get_or devices consumer.node None) refl p.1, cc)

consumers_usable : (devices : List (Option Device)) (signals : Signals) (place : ℕ) (sent : Layout) (used more : List Used) (consumers : List Consumer)
    → folded (consumer_added devices signals place sent) used consumers ≡ Ok more → AreUsable devices used → AreUsable devices more × AreUsable devices (map taken_by consumers)
unfolding folded
consumers_usable devices signals place sent used more [] h all = let same : used ≡ more = cc in (subst (AreUsable devices) same all, All-nil (IsUsed devices))
consumers_usable devices signals place sent used more (c ∷ cs) h all =
    let p = bind_ok (consumer_added devices signals place sent used c) (λ next. folded (consumer_added devices signals place sent) next cs) more h in
    let one = consumer_usable devices signals place sent used p.0 c p.1 in
    let rest = consumers_usable devices signals place sent p.0 more cs p.2 (subst (AreUsable devices) one.1 (pushed devices used (taken_by c) all one.0)) in
    (rest.0, All-cons (IsUsed devices) (taken_by c) (map taken_by cs) one.0 rest.1)

-- what a row of the table of PDOs uses is usable, and so is all that was used before and after it
row_usable : (devices : List (Option Device)) (signals : Signals) (found more : Traffic) (row : PdoRow) → pdo_added devices signals found row ≡ Ok more → AreUsable devices found.used
    → AreUsable devices more.used × AreUsable devices (sent_by row ∷ map taken_by row.consumers)
row_usable devices signals found more row h all =
    let p = bind_ok (transmitted_by signals (length found.streams + 1) row (get_or devices row.node None)) _ more h in
    let own = transmitted_usable devices signals row.node (length found.streams + 1) row (get_or devices row.node None) p.0 refl p.1 in
    let q = bind_ok (folded (consumer_added devices signals (length found.streams + 1) p.0.mapping) (found.used ++ sent_by row ∷ []) row.consumers) _ more p.2 in
    let c = consumers_usable devices signals (length found.streams + 1) p.0.mapping (found.used ++ sent_by row ∷ []) q.0 row.consumers q.1 (pushed devices found.used (sent_by row) all own) in
    let used : q.0 ≡ more.used = by_field q.2 in
    (subst (AreUsable devices) used c.0, All-cons (IsUsed devices) (sent_by row) (map taken_by row.consumers) own c.1)
  where
    by_field : {streams : List _} {used : List Used} → ◌≡◌ {A = Result Traffic Refusal} (Ok (record { streams = streams; used = used })) (Ok more) → used ≡ more.used
    by_field {streams} {used} e = let same : record { streams = streams; used = used } ≡ more = cc in ap (λ (t : Traffic). t.used) same

all_usable : (devices : List (Option Device)) (signals : Signals) (rows : List PdoRow) (found more : Traffic) → folded (pdo_added devices signals) found rows ≡ Ok more → AreUsable devices found.used → AreUsable devices more.used
unfolding folded
all_usable devices signals [] found more h all = let same : found ≡ more = cc in subst (λ (t : Traffic). AreUsable devices t.used) same all
all_usable devices signals (row ∷ rows) found more h all =
    let p = bind_ok (pdo_added devices signals found row) (λ t. folded (pdo_added devices signals) t rows) more h in
    all_usable devices signals rows p.0 more p.2 (row_usable devices signals found p.0 row p.1 all).0

used_usable : (devices : List (Option Device)) (used : List Used) (node index : ℕ) → AreUsable devices used → is_used used node index ≡ true → IsUsableAt devices node index
used_usable devices [] node index all h = absurd (true≢false (sym h))
used_usable devices (u ∷ rest) node index all h = by_test (is_record node index u) refl h (used_usable devices rest node index (All-tail (IsUsed devices) u rest all))
  where
    same_node : (a b c d : ℕ) → ((a == b) && (c == d)) ≡ true → (a ≡ b) × (c ≡ d)
    same_node a b c d t = (grind (arith, nat_tests), grind (arith, nat_tests))

    by_test : (b : Bool) → is_record node index u ≡ b → (b || is_used rest node index) ≡ true → (is_used rest node index ≡ true → IsUsableAt devices node index) → IsUsableAt devices node index
    by_test true t k later =
        let e = same_node u.node node u.index index t in
        subst (λ (n : ℕ). IsUsableAt devices n index) e.0 (subst (IsUsableAt devices u.node) e.1 (All-head (IsUsed devices) u rest all))
    by_test false t k later = later k

-- what has an identifier is usable, and the identifier is one of those given
id_usable : (devices : List (Option Device)) (signals : Signals) (rows : List PdoRow) (found more : Traffic) → folded (pdo_added devices signals) found rows ≡ Ok more → AreUsable devices found.used
    → (ids : List ℕ) → All IsPdoId ids → (node index id : ℕ) → id_at rows ids node index ≡ Some id → IsUsableAt devices node index × IsPdoId id
unfolding folded
id_usable devices signals [] found more h all ids range node index id e = cc
id_usable devices signals (row ∷ rows) found more h all [] range node index id e = cc
id_usable devices signals (row ∷ rows) found more h all (i ∷ ids) range node index id e =
    let p = bind_ok (pdo_added devices signals found row) (λ t. folded (pdo_added devices signals) t rows) more h in
    let r = row_usable devices signals found p.0 row p.1 all in
    by_test (uses row node index) refl e (used_usable devices (sent_by row ∷ map taken_by row.consumers) node index r.1)
    (id_usable devices signals rows p.0 more p.2 r.0 ids (All-tail IsPdoId i ids range) node index id)
  where
    by_test : (b : Bool) → uses row node index ≡ b → cond b (Some i) (id_at rows ids node index) ≡ Some id → (uses row node index ≡ true → IsUsableAt devices node index)
        → (id_at rows ids node index ≡ Some id → IsUsableAt devices node index × IsPdoId id) → IsUsableAt devices node index × IsPdoId id
    by_test true t k here later = let same : i ≡ id = cc in (here t, subst IsPdoId same (All-head IsPdoId i ids range))
    by_test false t k here later = later k

-- ---- what takes an identifier goes off

first_ok : {A B : Type 0} (r : Result A Abort) (f : A → Result B Abort) → is_ok (r >>= f) ≡ true → is_ok r ≡ true
first_ok (Ok x) f h = refl
first_ok (Err e) f h = h

takes_goes_off : (entries : List Entry) (index cob_id id : ℕ) → takes entries index cob_id id ≡ true → goes_off entries index cob_id ≡ true
takes_goes_off entries index cob_id id h = first_ok (written entries index 1 (word (off cob_id))) (λ now. written now index 1 (word (on cob_id id))) h

-- ---- no PDO stays on that nobody uses

none_of : (used : List Used) (node : ℕ) (whole entries : List Entry) (e : Entry) → list_any (λ entry. stays_on whole entry && not (is_used used node entry.index)) entries ≡ false → Contains entries e
    → (stays_on whole e && not (is_used used node e.index)) ≡ false
none_of used node whole [] e h (k, low, here) = absurd (omega arith)
none_of used node whole (x ∷ xs) e h (zero, low, here) = let same : x ≡ e = here in subst (λ (y : Entry). (stays_on whole y && not (is_used used node y.index)) ≡ false) same (or_parts _ _ h).0
none_of used node whole (x ∷ xs) e h (suc k, low, here) = none_of used node whole xs e (or_parts _ _ h).1 (k, omega arith, here)

off_unless_on : (entries : List Entry) (e : Entry) (cob_id : ℕ) → is_cob_id e ≡ true → unsigned32_of e ≡ Some cob_id → exists_by cob_id ≡ true → stays_on entries e ≡ false → goes_off entries e.index cob_id ≡ true
off_unless_on entries e cob_id cob is ex h =
    let keeps : keeps_pdo e ≡ true = rw is ex in
    by_bool (goes_off entries e.index cob_id) (rw (cob, keeps, is) at h)
  where
    by_bool : (b : Bool) → (true && (true && not b)) ≡ false → b ≡ true
    by_bool true h = refl
    by_bool false h = absurd (true≢false h)

stray_at : (frames : List FrameRow) (used : List Used) (first k : ℕ) (devices : List (Option Device)) (own : Device) → all_settable frames used first devices ≡ Ok tt
    → get_or devices k None ≡ Some own → has_stray used (first + k) own.dictionary ≡ false
unfolding all_settable
stray_at frames used first k [] own h e = cc
stray_at frames used first zero (x ∷ xs) own h e =
    let p = bind_ok (settable frames used first x) (λ _. all_settable frames used (first + 1) xs) tt h in
    let ok : settable frames used first (Some own) ≡ Ok tt = ap (settable frames used first) (sym e) ∙ p.1 ∙ ap Ok (unit p.0) in
    let same : first + 0 ≡ first = omega arith in
    rw same (by_test (beats own.dictionary (heartbeat_of frames first)) (has_stray used first own.dictionary) ok)
  where
    unit : (u : Unit {0}) → u ≡ tt
    unit u = refl

    by_test : (b c : Bool) → ◌≡◌ {A = Result (Unit {0}) Refusal} (cond (not b) (at_node rules.Heartbeat own.place) (cond c (at_node (rules.StaysOn (first_stray used first own.dictionary)) own.place) (Ok tt))) (Ok tt) → c ≡ false
    by_test true true k = cc
    by_test true false k = refl
    by_test false c k = cc
stray_at frames used first (suc k) (x ∷ xs) own h e =
    let p = bind_ok (settable frames used first x) (λ _. all_settable frames used (first + 1) xs) tt h in
    let same : first + suc k ≡ first + 1 + k = omega arith in
    rw same (stray_at frames used (first + 1) k xs own p.2 e)

-- ---- a network's devices

-- what a network's table of nodes says for its PDOs
abbrev said : Net → Signals
said net = signals_of net.nodes.frames (length net.rows)

-- what the PDOs of a network use, and its devices take
record IsTravelled (net : Net) : Type 0 where
  traffic : Traffic
  found : folded (pdo_added net.equipment.devices (said net)) no_traffic net.rows ≡ Ok traffic
  settled : all_settable net.nodes.frames traffic.used 0 net.equipment.devices ≡ Ok tt

travelled : (net : Net) (wanted : List Rate) (files : List File) → network_of wanted net.nodes net.rows files ≡ Ok (accepted net) → IsTravelled net
unfolding streams_of pdos_of
travelled net wanted files made =
    let s = (equipped wanted net.nodes net.rows files (accepted net) made).streams in
    let p = bind_ok (pdos_of net.equipment.devices (said net) net.rows) _ (accepted net).streams s in
    let q = bind_ok (all_settable net.nodes.frames p.0.used 0 net.equipment.devices) _ (accepted net).streams p.2 in
    record { traffic = p.0; found = p.1; settled = q.1 }

no_devices : (n k : ℕ) → get_or (replicate {A = Option Device} n None) k None ≡ None
no_devices zero k = refl
no_devices (suc n) zero = refl
no_devices (suc n) (suc k) = no_devices n k

-- a node that has a device has a row
row_of_device : (wanted : List Rate) (files : List File) (rows : List DeviceRow) (equipment : Equipment) (node : ℕ) (own : Device) → devices_of wanted files rows ≡ Ok equipment → get_or equipment.devices node None ≡ Some own
    → (row : DeviceRow) × (find (λ row. row.node == node) rows ≡ Some row)
unfolding devices_of
row_of_device wanted files rows equipment node own h there = by_row (find (λ row. row.node == node) rows) refl
  where
    by_row : (o : Option DeviceRow) → find (λ row. row.node == node) rows ≡ o → (row : DeviceRow) × (find (λ row. row.node == node) rows ≡ Some row)
    by_row (Some row) e = (row, e)
    by_row None e =
        let absent : get_or equipment.devices node None ≡ None = others files node rows (no_device wanted) equipment h e ∙ no_devices 128 node in
        let clash : ◌≡◌ {A = Option Device} (Some own) None = sym there ∙ absent in
        absurd (cc)

module _ (net : Net) (is : IsNetwork net) (ids : List ℕ) (range : All IsPdoId ids) (node : ℕ) (entries : List Entry) (its : dictionary_of net node ≡ Some entries) where
  own_device : (d : Device) × (get_or net.equipment.devices node None ≡ Some d) × (d.dictionary ≡ entries)
  own_device = by_device (get_or net.equipment.devices node None) refl its
    where
      by_device : (o : Option Device) → get_or net.equipment.devices node None ≡ o → option_map (λ (d : Device). d.dictionary) o ≡ Some entries → (d : Device) × (get_or net.equipment.devices node None ≡ Some d) × (d.dictionary ≡ entries)
      by_device None e h = cc
      by_device (Some d) e h = (d, e, cc)

  own_row : (row : DeviceRow) × (find (λ row. row.node == node) net.nodes.devices ≡ Some row)
  own_row = row_of_device is.wanted is.files net.nodes.devices net.equipment node own_device.0 (equipped is.wanted net.nodes net.rows is.files (accepted net) is.made).devices own_device.1

  described : IsDevice is.files net.equipment.devices node own_row.0
  described = device net is.wanted is.files is.made is.nodes node own_row.0 own_row.1

  same : described.entries ≡ entries
  unfolding described
  same =
      let both : ◌≡◌ {A = Option (List Entry)} (Some described.entries) (Some entries) = sym (dictionary net is.wanted is.files is.made is.nodes node own_row.0 own_row.1) ∙ its in
      cc

  sorted : IsSorted entries
  sorted = subst IsSorted same (built_sorted described.text node described.entries described.described)

  moves : IsTravelled net
  moves = travelled net is.wanted is.files is.made

  -- a usable record of the node is usable in its dictionary
  usable_here : (index : ℕ) (u : IsUsableAt net.equipment.devices node index) → is_usable entries index (ranges_where u.second) ≡ true
  usable_here index u =
      let both : ◌≡◌ {A = Option Device} (Some u.own) (Some own_device.0) = sym u.there ∙ own_device.1 in
      let one : u.own ≡ own_device.0 = cc in
      subst (λ (d : List Entry). is_usable d index (ranges_where u.second) ≡ true) (ap (λ (d : Device). d.dictionary) one ∙ own_device.2) u.usable

  at_own : (e : Entry) → Contains entries e → is_cob_id e ≡ true → entry_at entries e.index 1 ≡ Some e
  at_own e inside cob = ap (entry_at entries e.index) (sym (sub_of e cob)) ∙ own_place entries e sorted inside

  no_stray : has_stray moves.traffic.used node entries ≡ false
  no_stray =
      let s = stray_at net.nodes.frames moves.traffic.used 0 node net.equipment.devices own_device.0 moves.settled own_device.1 in
      let plain : 0 + node ≡ node = omega arith in
      subst (λ (d : List Entry). has_stray moves.traffic.used node d ≡ false) own_device.2 (rw plain at s)

  unused_goes_off : (e : Entry) (cob_id : ℕ) → Contains entries e → is_cob_id e ≡ true → unsigned32_of e ≡ Some cob_id → exists_by cob_id ≡ true → goes_off entries e.index cob_id ≡ true
  unused_goes_off e cob_id inside cob is_32 ex = by_use (is_used moves.traffic.used node e.index) refl
    where
      by_use : (b : Bool) → is_used moves.traffic.used node e.index ≡ b → goes_off entries e.index cob_id ≡ true
      by_use true u =
          let at : IsUsableAt net.equipment.devices node e.index =
          used_usable net.equipment.devices moves.traffic.used node e.index (all_usable net.equipment.devices (said net) net.rows no_traffic moves.traffic moves.found (All-nil (IsUsed net.equipment.devices))) u in
          takes_goes_off entries e.index cob_id 0x181 (usable_takes entries e.index e cob_id 0x181 at.second (at_own e inside cob) cob is_32 (usable_here e.index at) (inl (omega arith, omega arith)))
      by_use false u =
          off_unless_on entries e cob_id cob is_32 ex
          (not_both (stays_on entries e) (is_used moves.traffic.used node e.index) (none_of moves.traffic.used node entries entries e no_stray inside) u)

  used_takes : (e : Entry) (cob_id id : ℕ) → Contains entries e → is_cob_id e ≡ true → unsigned32_of e ≡ Some cob_id → id_at net.rows ids node e.index ≡ Some id → takes entries e.index cob_id id ≡ true
  used_takes e cob_id id inside cob is_32 own =
      let u = id_usable net.equipment.devices (said net) net.rows no_traffic moves.traffic moves.found (All-nil (IsUsed net.equipment.devices)) ids range node e.index id own in
      usable_takes entries e.index e cob_id id u.0.second (at_own e inside cob) cob is_32 (usable_here e.index u.0) u.1

  pub network_admits : Admits entries (id_at net.rows ids node) (heartbeat_of net.nodes.frames node)
  unfolding described
  network_admits = record {
    sorted = sorted;
    used = used_takes;
    unused = unused_goes_off;
    beats = subst (λ (d : List Entry). beats d (heartbeat_of net.nodes.frames node) ≡ true) same (beating net is.wanted is.files is.made is.nodes node own_row.0 own_row.1);
  }

  -- and a reset leaves them as they were built
  pub network_resets : (initial entries ≡ entries) × (initial_communication entries ≡ entries)
  network_resets =
      subst (λ (d : List Entry). (initial d ≡ d) × (initial_communication d ≡ d)) same (built_stays described.text node described.entries described.described)

  -- each COB-ID is an UNSIGNED32
  pub network_plain : (e : Entry) → Contains entries e → is_cob_id e ≡ true → (v : ℕ) × (unsigned32_of e ≡ Some v)
  network_plain e inside cob = by_number (unsigned32_of e) refl
    where
      no_number : unsigned32_of e ≡ None → (b : Bool) → is_used moves.traffic.used node e.index ≡ b → ⊥
      no_number none true u =
          let at : IsUsableAt net.equipment.devices node e.index =
          used_usable net.equipment.devices moves.traffic.used node e.index (all_usable net.equipment.devices (said net) net.rows no_traffic moves.traffic moves.found (All-nil (IsUsed net.equipment.devices))) u in
          let has : option_and_then unsigned32_of (entry_at entries e.index 1) ≡ None = rw (at_own e inside cob) none in
          let never : false ≡ true = rw has at (usable_here e.index at) in
          true≢false (sym never)
      no_number none false u =
          let off : stays_on entries e ≡ false = not_both (stays_on entries e) (is_used moves.traffic.used node e.index) (none_of moves.traffic.used node entries entries e no_stray inside) u in
          let keeps : keeps_pdo e ≡ true = rw none refl in
          let never : true ≡ false = rw (cob, keeps, none) at off in
          true≢false never

      by_number : (o : Option ℕ) → unsigned32_of e ≡ o → (v : ℕ) × (unsigned32_of e ≡ Some v)
      by_number (Some v) is_v = (v, is_v)
      by_number None none = absurd (no_number none (is_used moves.traffic.used node e.index) refl)

  pub ids_low : (index id : ℕ) → id_at net.rows ids node index ≡ Some id → id < 2 ^ 11
  ids_low index id own =
      let u = id_usable net.equipment.devices (said net) net.rows no_traffic moves.traffic moves.found (All-nil (IsUsed net.equipment.devices)) ids range node index id own in
      small_id id u.1

  -- a record that a plan uses has a COB-ID
  pub used_there : (index id : ℕ) → id_at net.rows ids node index ≡ Some id → entry_at entries index 1 ≡ None → ⊥
  used_there index id own none =
      let u = id_usable net.equipment.devices (said net) net.rows no_traffic moves.traffic moves.found (All-nil (IsUsed net.equipment.devices)) ids range node index id own in
      let has : option_and_then unsigned32_of (entry_at entries index 1) ≡ None = rw none refl in
      let never : false ≡ true = rw has at (usable_here index u.0) in
      true≢false (sym never)
