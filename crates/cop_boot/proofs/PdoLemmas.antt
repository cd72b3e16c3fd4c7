-- In a device that has the settings of a plan exactly the PDOs of the plan exist, and it has what its DCF says.
use Rattle.std.proofs.Common.{◌≡◌, ℕ, Bool, true, false, ◌&&◌, ◌==◌, List, [], ◌∷◌, All, Contains, refl, sym, ap, subst, ◌∙◌, arith, Option, Some, None, map, Ok}
use Rattle.std.specs.Prelude.{option_map}
use Rattle.std.specs.Option.{option_and_then}
use Rattle.std.proofs.lemmas.Bool.Decides.{nat_tests}
use Rattle.cop_dict.specs.Find.{Entry, entry_at, unsigned32_of}
use Rattle.cop_dict.specs.Pdo.{is_cob_id}
use Rattle.cop_dict.specs.Dict.{valued}
use Rattle.cop_dict.proofs.DictLemmas.{found_inside}
use Rattle.cop_dict.proofs.Replaced.{value_replaced}
use Rattle.cop_dict.proofs.LawLemmas.{others}
use Rattle.cop_frame.specs.declared.rates.Rate.{Rate}
use Rattle.cop_rows.specs.declared.node_table.DeviceRow.{DeviceRow}
use Rattle.cop_net.specs.Devices.{File}
use Rattle.cop_net.specs.Heartbeats.{heartbeat_of}
use Rattle.cop_net.specs.Network.{Net, IsNetwork}
use Rattle.cop_setup.specs.declared.setting.Setting.{Setting}
use Rattle.cop_setup.specs.Settings.{bytes_of, with_setting, planned}
use Rattle.cop_dcf.specs.Identifiers.{id_at}
use Rattle.cop_dcf.specs.Planned.{settled, IsNodeReadAgain}
use Rattle.cop_dcf.specs.Settings.{dictionary_of, asked_of, node_settings, settings_by}
use Rattle.cop_dcf.proofs.AskedLemmas.{node_taken}
use Rattle.cop_boot.specs.declared.«end».End.TheVariants.{Ready}
use Rattle.cop_boot.specs.Manager.{Managing, end_at}
use Rattle.cop_boot.specs.Device.{Attached}
use Rattle.cop_boot.specs.Bus.{Made}
use Rattle.cop_net.specs.Signals.{IsPdoId}
use Rattle.cop_boot.specs.PlannedPdos.{IsAsPlanned, IsRecordAsPlanned, HasPlannedPdos}
use Rattle.cop_boot.specs.NetworkBoot.{IsPlanOf, HavePlannedPdos, HasWhatItsDcfSays}
use Rattle.cop_boot.proofs.NetworkAdmits.{network_admits, network_plain, ids_low, used_there}
use Rattle.cop_boot.proofs.PlannedLemmas.{as_planned}

-- a setting puts nothing where nothing was
still_absent : (s : Setting) (dict : List Entry) (index sub : ℕ) → entry_at dict index sub ≡ None → entry_at (with_setting dict s) index sub ≡ None
still_absent s dict index sub none = by_test ((s.index == index) && (s.sub == sub)) refl
  where
    same : (a b c d : ℕ) → ((a == c) && (b == d)) ≡ true → (a ≡ c) × (b ≡ d)
    same a b c d t = (grind (arith, nat_tests), grind (arith, nat_tests))

    by_test : (b : Bool) → ((s.index == index) && (s.sub == sub)) ≡ b → entry_at (with_setting dict s) index sub ≡ None
    by_test false t = others dict s.index s.sub index sub (bytes_of s) t ∙ none
    by_test true t =
        let at = same s.index s.sub index sub t in
        let here : entry_at dict s.index s.sub ≡ None = rw (at.0, at.1) none in
        subst (λ n. entry_at (with_setting dict s) n sub ≡ None) at.0
        (subst (λ n. entry_at (with_setting dict s) s.index n ≡ None) at.1 (value_replaced dict s.index s.sub (bytes_of s) ∙ ap (option_map (valued (bytes_of s))) here))

absent_after : (settings : List Setting) (dict : List Entry) (index sub : ℕ) → entry_at dict index sub ≡ None → entry_at (planned dict settings) index sub ≡ None
absent_after [] dict index sub none = none
absent_after (s ∷ rest) dict index sub none = absent_after rest (with_setting dict s) index sub (still_absent s dict index sub none)

-- each COB-ID of a device is as planned
pub network_as_planned : (net : Net) (ids : List ℕ) (node : ℕ) (dict : List Entry) (e : Entry) → IsNetwork net → All IsPdoId ids → dictionary_of net node ≡ Some dict → Contains dict e → is_cob_id e ≡ true
    → IsAsPlanned (id_at net.rows ids node e.index) (option_and_then unsigned32_of (entry_at (planned dict (node_settings net ids node)) e.index 1))
network_as_planned net ids node dict e is range its inside cob =
    let time = heartbeat_of net.nodes.frames node in
    let plain = network_plain net is ids range node dict its e inside cob in
    subst (λ (o : Option (List Entry)). IsAsPlanned (id_at net.rows ids node e.index) (option_and_then unsigned32_of (entry_at (planned dict (settings_by (asked_of net node) (id_at net.rows ids node) time o)) e.index 1))) (sym its)
    (as_planned dict (asked_of net node) (id_at net.rows ids node) time (network_admits net is ids range node dict its) (node_taken net node dict is its) (ids_low net is ids range node dict its) e plain.0 inside cob plain.1)

-- and so is each communication record
pub records_as_planned : (net : Net) (ids : List ℕ) (node : ℕ) (dict : List Entry) → IsNetwork net → All IsPdoId ids → dictionary_of net node ≡ Some dict
    → HasPlannedPdos (id_at net.rows ids node) (planned dict (node_settings net ids node))
records_as_planned net ids node dict is range its index record_of = by_entry (entry_at dict index 1) refl
  where
    by_found : (id : Option ℕ) (o : Option Entry) → IsAsPlanned id (option_and_then unsigned32_of o) → IsRecordAsPlanned id o
    by_found id (Some x) h = h
    by_found (Some id) None h = h
    by_found None None h = tt

    by_id : entry_at dict index 1 ≡ None → (id : Option ℕ) → id_at net.rows ids node index ≡ id → IsRecordAsPlanned id None
    by_id none None own = tt
    by_id none (Some id) own = used_there net is ids range node dict its index id own none

    by_entry : (o : Option Entry) → entry_at dict index 1 ≡ o → IsRecordAsPlanned (id_at net.rows ids node index) (entry_at (planned dict (node_settings net ids node)) index 1)
    by_entry (Some e) here =
        let f = found_inside dict index 1 e here in
        let cob : is_cob_id e ≡ true = rw (f.1, f.2, record_of) refl in
        subst (λ n. IsRecordAsPlanned (id_at net.rows ids node n) (entry_at (planned dict (node_settings net ids node)) n 1)) f.1
        (by_found (id_at net.rows ids node e.index) (entry_at (planned dict (node_settings net ids node)) e.index 1) (network_as_planned net ids node dict e is range its f.0 cob))
    by_entry None none =
        subst (IsRecordAsPlanned (id_at net.rows ids node index)) (sym (absent_after (node_settings net ids node) dict index 1 none)) (by_id none (id_at net.rows ids node index) refl)

-- the devices of the nodes that are ready
pub pdos_so : (m : Managing) (built : ℕ → List Entry) (later : Managing) (after : List Attached) (net : Net) (ids : List ℕ) → Made m built later after → IsPlanOf net ids m built
    → HavePlannedPdos net ids later after
pdos_so m built later after net ids made is n ready =
    let x = made.configured n ready in
    let whole : x.device.dict ≡ planned (built n) (node_settings net ids n) = x.dict ∙ ap (planned (built n)) (is.settings n x.node x.manages) in
    record {
      device = x.device;
      there = x.there;
      pdos = subst (HasPlannedPdos (id_at net.rows ids n)) (sym whole) (records_as_planned net ids n (built n) is.network is.range (is.devices n x.node x.manages));
    }

-- and what the DCF of each says
pub dcf_said : (m : Managing) (built : ℕ → List Entry) (later : Managing) (after : List Attached) (net : Net) (files : List File) (ids : List ℕ) (rate : Rate) (n : ℕ) (row : DeviceRow)
    → Made m built later after → IsPlanOf net ids m built → IsNodeReadAgain net files ids rate n row → end_at later.nodes n ≡ Some Ready → HasWhatItsDcfSays net files ids rate n row after
dcf_said m built later after net files ids rate n row made is again ready =
    let x = made.configured n ready in
    let same : ◌≡◌ {A = Option (List Entry)} (Some again.dict) (Some (built n)) = sym again.dictionary ∙ is.devices n x.node x.manages in
    let one : again.dict ≡ built n = cc in
    let whole : planned again.dict (node_settings net ids n) ≡ x.device.dict =
    ap (λ d. planned d (node_settings net ids n)) one ∙ sym (x.dict ∙ ap (planned (built n)) (is.settings n x.node x.manages)) in
    record {
      text = again.text;
      from = again.there;
      device = x.device;
      there = x.there;
      says = λ short. (again.again short).dictionary ∙ ap (λ d. Ok (map settled d)) whole;
    }
