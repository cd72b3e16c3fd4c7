-- The DCF of a network's device is read again.
use Rattle.std.specs.Prelude.{slice_set}
use Rattle.std.proofs.Common.{◌≡◌, ◌≢◌, ◌<◌, ◌≤◌, ℕ, zero, suc, ◌+◌, ◌*◌, ◌^◌, Bool, true, false, not, ◌==◌, cond, List, [], ◌∷◌, length, get_or, find, option_map, Option, Some, None, Result, Ok, Err, refl, sym, ap, ◌∙◌, subst, arith, All, AllPairs, IsTrue}
use Rattle.std.proofs.lemmas.Bool.{ne_eqb}
use Rattle.std.proofs.lemmas.Bool.Decides.{nat_tests}
use Rattle.std.proofs.lemmas.List.{length-set, length-replicate, get_or-set_same, get_or-set_other}
use Rattle.cop_frame.specs.declared.rates.Rate.{Rate}
use Rattle.cop_eds.specs.declared.fault.Refusal as eds
use Rattle.cop_eds.specs.Reading.{reading}
use Rattle.cop_eds.proofs.EditLemmas.{sections_equal, found_test}
use Rattle.cop_dict.specs.Find.{Entry}
use Rattle.cop_dict.specs.Build.{built}
use Rattle.cop_dict.proofs.BuildLemmas.{built_sorted}
use Rattle.cop_rows.specs.declared.node_table.DeviceRow.{DeviceRow}
use Rattle.cop_rows.specs.declared.node_table.FrameRow.{FrameRow}
use Rattle.cop_rows.specs.declared.node_table.FrameKind.TheVariants.{Heartbeat}
use Rattle.cop_rows.specs.declared.pdo_table.PdoRow.{PdoRow}
use Rattle.cop_rows.specs.Names.{is_name}
use Rattle.cop_rows.specs.Nodes.{NodeLists, IsNodeTable}
use Rattle.cop_net.specs.declared.devices.Device.{Device}
use Rattle.cop_net.specs.declared.faults.Refusal.{Refusal}
use Rattle.cop_net.specs.declared.faults.Rule.TheVariants as rules
use Rattle.cop_net.specs.Faults.{at_node}
use Rattle.cop_net.specs.declared.uses.Used.{Used}
use Rattle.cop_net.specs.Devices.{File, Equipment, text_of, text_at, text_read, refused_at, entries_of, with_device, described, device_added, no_device, devices_of}
use Rattle.std.specs.Option.{option_map_or}
use Rattle.cop_table.specs.Reading.{◌>>=◌}
use Rattle.cop_setup.specs.declared.setting.Setting.{Setting}
use Rattle.cop_rows.specs.SettingRows.{AreSettingRows}
use Rattle.cop_net.specs.Asking.{settings_asked}
use Rattle.cop_net.proofs.TakenLemmas.{asked_taken}
use Rattle.cop_net.specs.Fixed.{IsTimed, key_of, rank_of}
use Rattle.cop_net.specs.Heartbeats.{heartbeat_of}
use Rattle.cop_net.specs.Pdos.{pdos_of}
use Rattle.cop_net.specs.Signals.{signals_of}
use Rattle.cop_net.specs.Settings.{beats}
use Rattle.cop_net.specs.Steps.{folded}
use Rattle.cop_net.specs.Network.{Net, Accepted, accepted, has_stray, first_stray, settable, all_settable, streams_of, network_of}
use Rattle.cop_net.proofs.FixedLemmas.{found_all}
use Rattle.cop_net.proofs.NetworkLemmas.{timed}
use Rattle.cop_rows.proofs.RangeLemmas.{bind_ok}
use Rattle.cop_net.proofs.TextLemmas.{read_as_itself}
use Rattle.cop_dcf.specs.Identifiers.{id_at}
use Rattle.cop_dcf.specs.Settings.{settings_by, dictionary_of, asked_of, node_settings}
use Rattle.cop_dcf.specs.Dcf.{dcf_of}
use Rattle.cop_dcf.specs.Planned.{IsReadAgain, IsNodeReadAgain}
use Rattle.cop_setup.specs.Settings.{IsNumber}
use Rattle.cop_dcf.proofs.IdentifierLemmas.{id_small}
use Rattle.cop_dcf.proofs.SettingsLemmas.{short_time}
use Rattle.cop_dcf.proofs.NumberLemmas.{all_numbers}
use Rattle.cop_dcf.proofs.RoundLemmas.{round}

pub accepted_by : {A : Type 0} (place : ℕ) (r : Result A eds.Refusal) (x : A) → refused_at place r ≡ Ok x → r ≡ Ok x
accepted_by place (Ok y) x h = let e : y ≡ x = cc in ap Ok e
accepted_by place (Err e) x h = cc

pub text_is : (place : ℕ) (o : Option (List ℕ)) (x : List ℕ) → text_at place o ≡ Ok x → o ≡ Some x
text_is place None x h = cc
text_is place (Some y) x h = let e : y ≡ x = cc in ap Some e

-- the device that a row adds
record IsStep (files : List File) (found next : Equipment) (row : DeviceRow) : Type 0 where
  text : List ℕ
  there : text_of files row.eds ≡ Some text
  accepted : reading text ≡ Ok text
  entries : List Entry
  described : built text row.node ≡ Ok entries
  settings : List Setting
  asked : settings_asked row.node entries row.settings ≡ Ok settings
  devices : next.devices ≡ slice_set found.devices row.node (Some (record { place = row.place; dictionary = entries; settings = settings }))

step : (files : List File) (found next : Equipment) (row : DeviceRow) → device_added (text_of files) found row ≡ Ok next → IsStep files found next row
step files found next row h =
    let p = bind_ok (text_read (text_of files) row.place row.eds) (described found row) next h in
    let q = bind_ok (text_at row.place (text_of files row.eds)) (λ text. refused_at row.place (reading text)) p.0 p.1 in
    let read : reading q.0 ≡ Ok p.0 = accepted_by row.place (reading q.0) p.0 q.2 in
    let same : p.0 ≡ q.0 = read_as_itself q.0 p.0 read in
    let r = bind_ok (entries_of row.place row.node p.0) (λ entries. settings_asked row.node entries row.settings >>= λ settings. Ok (with_device found row p.0 entries settings)) next p.2 in
    let t = bind_ok (settings_asked row.node r.0 row.settings) (λ settings. Ok (with_device found row p.0 r.0 settings)) next r.2 in
    let whole : ◌≡◌ {A = Result Equipment Refusal} (Ok (with_device found row p.0 r.0 t.0)) (Ok next) = t.2 in
    let made : with_device found row p.0 r.0 t.0 ≡ next = cc in
    record {
      text = q.0;
      there = text_is row.place (text_of files row.eds) q.0 q.1;
      accepted = read ∙ ap Ok same;
      entries = r.0;
      described = ap (λ t. built t row.node) (sym same) ∙ accepted_by row.place (built p.0 row.node) r.0 r.1;
      settings = t.0;
      asked = t.1;
      devices = ap (λ (e : Equipment). e.devices) (sym made);
    }

-- the rows of other nodes leave a node's device as it is
pub others : (files : List File) (node : ℕ) (rows : List DeviceRow) (found more : Equipment) → folded (device_added (text_of files)) found rows ≡ Ok more
    → find (λ row. row.node == node) rows ≡ None → get_or more.devices node None ≡ get_or found.devices node None
unfolding folded
others files node [] found more h none = let same : found ≡ more = cc in ap (λ (e : Equipment). get_or e.devices node None) (sym same)
others files node (row ∷ rows) found more h none =
    let p = bind_ok (device_added (text_of files) found row) (λ next. folded (device_added (text_of files)) next rows) more h in
    by_test (row.node == node) refl none (step files found p.0 row p.1) (others files node rows p.0 more p.2)
  where
    by_test : {next : Equipment} (b : Bool) → (row.node == node) ≡ b → cond b (Some row) (find (λ row. row.node == node) rows) ≡ None → IsStep files found next row
        → (find (λ row. row.node == node) rows ≡ None → get_or more.devices node None ≡ get_or next.devices node None) → get_or more.devices node None ≡ get_or found.devices node None
    by_test true is k s later = cc
    by_test false is k s later =
        let apart : node ≢ row.node = λ e. let yes : (row.node == node) ≡ true = grind (arith, nat_tests) in let bad : true ≡ false = sym yes ∙ is in cc in
        later k ∙ ap (λ ds. get_or ds node None) s.devices ∙ get_or-set_other found.devices row.node node (Some (record { place = row.place; dictionary = s.entries; settings = s.settings })) None apart

-- the device of a row
pub record IsDevice (files : List File) (devices : List (Option Device)) (node : ℕ) (row : DeviceRow) : Type 0 where
  pub text : List ℕ
  pub there : text_of files row.eds ≡ Some text
  pub accepted : reading text ≡ Ok text
  pub entries : List Entry
  pub described : built text node ≡ Ok entries
  pub settings : List Setting
  pub asked : settings_asked node entries row.settings ≡ Ok settings
  pub device : get_or devices node None ≡ Some (record { place = row.place; dictionary = entries; settings = settings })

Apart : List DeviceRow → Type 0
Apart rows = AllPairs (λ d e. d.node ≢ e.node) rows

none_later : (row : DeviceRow) (rows : List DeviceRow) → ((k : ℕ) (d : DeviceRow) → k < length rows → row.node ≢ (get_or rows k d).node) → find (λ r. r.node == row.node) rows ≡ None
none_later row [] apart = refl
none_later row (x ∷ xs) apart =
    let no : (x.node == row.node) ≡ false = ne_eqb x.node row.node (λ e. apart 0 x (omega arith) (sym e)) in
    rw no (none_later row xs (λ k d lt. apart (suc k) d (omega arith)))

device_there : (files : List File) (node : ℕ) (row : DeviceRow) (rows : List DeviceRow) (found more : Equipment) → Apart rows → node < length found.devices
    → folded (device_added (text_of files)) found rows ≡ Ok more → find (λ row. row.node == node) rows ≡ Some row → IsDevice files more.devices node row
unfolding folded Apart
device_there files node row [] found more apart small h e = cc
device_there files node row (x ∷ xs) found more apart small h e =
    let p = bind_ok (device_added (text_of files) found x) (λ next. folded (device_added (text_of files)) next xs) more h in
    let s = step files found p.0 x p.1 in
    let size : length p.0.devices ≡ length found.devices = ap length s.devices ∙ length-set found.devices x.node (Some (record { place = x.place; dictionary = s.entries; settings = s.settings })) in
    by_test p.0 s p.2 (x.node == node) refl e (device_there files node row xs p.0 more (λ i j d lt inside. apart (suc i) (suc j) d (omega arith) (omega arith)) (omega (arith, small, size)) p.2)
  where
    by_test : (next : Equipment) → IsStep files found next x → folded (device_added (text_of files)) next xs ≡ Ok more → (b : Bool) → (x.node == node) ≡ b → cond b (Some x) (find (λ row. row.node == node) xs) ≡ Some row
        → (find (λ row. row.node == node) xs ≡ Some row → IsDevice files more.devices node row) → IsDevice files more.devices node row
    by_test next s rest false is k later = later k
    by_test next s rest true is k later =
        let same : x ≡ row = cc in
        let own : x.node ≡ node = sections_equal x.node node is in
        let none : find (λ r. r.node == x.node) xs ≡ None = none_later x xs (λ j d lt. apart 0 (suc j) d (omega arith) (omega arith)) in
        subst (IsDevice files more.devices node) same
        (record {
          text = s.text;
          there = s.there;
          accepted = s.accepted;
          entries = s.entries;
          described = ap (built s.text) (sym own) ∙ s.described;
          settings = s.settings;
          asked = ap (λ n. settings_asked n s.entries x.settings) (sym own) ∙ s.asked;
          device =
              ap (λ n. get_or more.devices n None) (sym own)
              ∙ others files x.node xs next more rest none
              ∙ ap (λ ds. get_or ds x.node None) s.devices
              ∙ get_or-set_same found.devices x.node (Some (record { place = x.place; dictionary = s.entries; settings = s.settings })) None (omega (arith, small, own));
        })

-- each device takes the time of its heartbeat
settable_at : (frames : List FrameRow) (used : List Used) (first k : ℕ) (devices : List (Option Device)) (device : Device) → all_settable frames used first devices ≡ Ok tt
    → get_or devices k None ≡ Some device → beats device.dictionary (heartbeat_of frames (first + k)) ≡ true
unfolding all_settable
settable_at frames used first k [] device h e = cc
settable_at frames used first zero (x ∷ xs) device h e =
    let p = bind_ok (settable frames used first x) (λ _. all_settable frames used (first + 1) xs) tt h in
    let ok : settable frames used first (Some device) ≡ Ok tt = ap (settable frames used first) (sym e) ∙ p.1 ∙ ap Ok (unit p.0) in
    let here : beats device.dictionary (heartbeat_of frames first) ≡ true = by_test (beats device.dictionary (heartbeat_of frames first)) ok in
    let same : first + 0 ≡ first = omega arith in
    ap (λ n. beats device.dictionary (heartbeat_of frames n)) same ∙ here
  where
    unit : (u : Unit {0}) → u ≡ tt
    unit u = refl

    by_test : (b : Bool) → ◌≡◌ {A = Result (Unit {0}) Refusal} (cond (not b) (at_node rules.Heartbeat device.place) (cond (has_stray used first device.dictionary) (at_node (rules.StaysOn (first_stray used first device.dictionary)) device.place) (Ok tt))) (Ok tt) → b ≡ true
    by_test true k = refl
    by_test false k = cc
settable_at frames used first (suc k) (x ∷ xs) device h e =
    let p = bind_ok (settable frames used first x) (λ _. all_settable frames used (first + 1) xs) tt h in
    let same : first + suc k ≡ first + 1 + k = omega arith in
    ap (λ n. beats device.dictionary (heartbeat_of frames n)) same ∙ settable_at frames used (first + 1) k xs device p.2 e

settable_in : (frames : List FrameRow) (rows : List PdoRow) (equipment : Equipment) (made : Accepted) → streams_of frames rows equipment ≡ Ok made.streams
    → (used : List Used) × (all_settable frames used 0 equipment.devices ≡ Ok tt)
unfolding streams_of
settable_in frames rows equipment made h =
    let p = bind_ok (pdos_of equipment.devices (signals_of frames (length rows)) rows) _ made.streams h in
    let q = bind_ok (all_settable frames p.0.used 0 equipment.devices) _ made.streams p.2 in
    (p.0.used, q.1)

-- the equipment of a network
pub record IsEquipped (wanted : List Rate) (nodes : NodeLists) (rows : List PdoRow) (files : List File) (made : Accepted) : Type 0 where
  pub devices : devices_of wanted files nodes.devices ≡ Ok made.equipment
  pub streams : streams_of nodes.frames rows made.equipment ≡ Ok made.streams

pub equipped : (wanted : List Rate) (nodes : NodeLists) (rows : List PdoRow) (files : List File) (made : Accepted) → network_of wanted nodes rows files ≡ Ok made → IsEquipped wanted nodes rows files made
unfolding network_of
equipped wanted nodes rows files made ok =
    let p = bind_ok (devices_of wanted files nodes.devices) _ made ok in
    let q = bind_ok (streams_of nodes.frames rows p.0) _ made p.2 in
    let whole : ◌≡◌ {A = Result Accepted Refusal} (Ok (record { equipment = p.0; streams = q.0 })) (Ok made) = q.2 in
    let same : record { equipment = p.0; streams = q.0 } ≡ made = cc in
    subst (IsEquipped wanted nodes rows files) same (record { devices = p.1; streams = q.1 })

module _ (net : Net) (wanted : List Rate) (files : List File) (made : network_of wanted net.nodes net.rows files ≡ Ok (accepted net)) (table : IsNodeTable net.nodes) (node : ℕ) (row : DeviceRow)
    (own : find (λ row. row.node == node) net.nodes.devices ≡ Some row) where
  equipment : IsEquipped wanted net.nodes net.rows files (accepted net)
  equipment = equipped wanted net.nodes net.rows files (accepted net) made

  node_is : row.node ≡ node
  node_is = sections_equal row.node node (found_test (λ r. r.node == node) net.nodes.devices row own)

  range : (1 ≤ row.node) × (row.node ≤ 127)
  range = rw own at (found_all (λ d. (1 ≤ d.node) × (d.node ≤ 127)) (λ r. r.node == node) net.nodes.devices table.nodes)

  pub low : node < 128
  low = let r = range.1 in omega (arith, r, node_is)

  -- the text and the dictionary of the node's device
  pub device : IsDevice files net.equipment.devices node row
  unfolding devices_of Apart
  device =
      device_there files node row net.nodes.devices (no_device wanted) net.equipment table.one_device
      (let size : length (no_device wanted).devices ≡ 128 = length-replicate {A = Option Device} 128 None in omega (arith, low, size)) equipment.devices own

  pub dictionary : dictionary_of net node ≡ Some device.entries
  dictionary = ap (option_map (λ (d : Device). d.dictionary)) device.device

  pub beating : beats device.entries (heartbeat_of net.nodes.frames node) ≡ true
  beating =
      let s = settable_in net.nodes.frames net.rows net.equipment (accepted net) equipment.streams in
      let h = settable_at net.nodes.frames s.0 0 node net.equipment.devices (record { place = row.place; dictionary = device.entries; settings = device.settings }) s.1 device.device in
      let same : 0 + node ≡ node = omega arith in
      ap (λ n. beats device.entries (heartbeat_of net.nodes.frames n)) (sym same) ∙ h

  row_settings : AreSettingRows row.settings
  row_settings = rw own at (found_all (λ d. AreSettingRows d.settings) (λ r. r.node == node) net.nodes.devices table.settings)

  asked_numbers : All (IsNumber device.entries) (asked_of net node)
  asked_numbers =
      let same : asked_of net node ≡ device.settings = ap (λ (o : Option Device). option_map_or (λ (d : Device). d.settings) o []) device.device in
      subst (λ xs. All (IsNumber device.entries) xs) (sym same) (asked_taken node device.entries row.settings device.settings row_settings device.asked).numbers

  numbers : (ids : List ℕ) → All (λ id. id < 2 ^ 11) ids → All (IsNumber device.entries) (node_settings net ids node)
  numbers ids small =
      subst (λ o. All (IsNumber device.entries) (settings_by (asked_of net node) (id_at net.rows ids node) (heartbeat_of net.nodes.frames node) o)) (sym dictionary)
      (all_numbers device.entries (built_sorted device.text node device.entries device.described) (asked_of net node) (id_at net.rows ids node) (heartbeat_of net.nodes.frames node) asked_numbers
      (λ index. id_small net.rows ids node index small)
      (short_time (find (λ row. key_of row == 6 * node + rank_of Heartbeat) net.nodes.frames) (found_all IsTimed (λ row. key_of row == 6 * node + rank_of Heartbeat) net.nodes.frames (timed net.nodes table)))
      beating)

  -- the DCF of the node is read again
  pub network_round : (ids : List ℕ) (rate : Rate) → All (λ id. id < 2 ^ 11) ids → IsTrue (is_name row.name) → IsTrue (is_name row.eds)
      → length (dcf_of device.text (node_settings net ids node) node row.name rate row.eds) ≤ 4 * 1024 * 1024
      → IsReadAgain (dcf_of device.text (node_settings net ids node) node row.name rate row.eds) node device.entries (node_settings net ids node)
  network_round ids rate small name eds_name short =
      round device.text (node_settings net ids node) node row.name rate row.eds device.entries device.accepted device.described (numbers ids small) name eds_name (let l = low in omega (arith, l)) short

pub node_round : (net : Net) (wanted : List Rate) (files : List File) (ids : List ℕ) (rate : Rate) (node : ℕ) (row : DeviceRow) → network_of wanted net.nodes net.rows files ≡ Ok (accepted net) → IsNodeTable net.nodes
    → find (λ row. row.node == node) net.nodes.devices ≡ Some row → All (λ id. id < 2 ^ 11) ids → IsTrue (is_name row.name) → IsTrue (is_name row.eds) → IsNodeReadAgain net files ids rate node row
node_round net wanted files ids rate node row made table own small name eds_name = record {
  text = (device net wanted files made table node row own).text;
  there = (device net wanted files made table node row own).there;
  dict = (device net wanted files made table node row own).entries;
  dictionary = dictionary net wanted files made table node row own;
  again = network_round net wanted files made table node row own ids rate small name eds_name;
}
