-- What is asked of the devices of a network is taken.
use Rattle.std.specs.Prelude.{slice_set}
use Rattle.std.proofs.Common.{⊎_elim, replicate, ◌≡◌, ◌≢◌, ◌<◌, ◌≤◌, ℕ, zero, suc, Bool, true, false, cond, nat_le, List, [], ◌∷◌, length, get_or, option_map, Option, Some, None, Result, Ok, Err, All, refl, sym, ap, subst, ◌∙◌, arith}
use Rattle.std.specs.Option.{option_map_or}
use Rattle.std.proofs.lemmas.Bool.Decides.{nat_tests}
use Rattle.std.proofs.lemmas.Bool.{cases_eq}
use Rattle.std.proofs.lemmas.List.{length-set, get_or-set_same, get_or-set_other, get_or_past}
use Rattle.std.proofs.lemmas.List.Elements.{All-nil, All-head, All-tail}
use Rattle.cop_frame.specs.declared.rates.Rate.{Rate}
use Rattle.cop_dict.specs.Find.{Entry}
use Rattle.cop_rows.specs.declared.node_table.DeviceRow.{DeviceRow}
use Rattle.cop_rows.specs.SettingRows.{AreSettingRows}
use Rattle.cop_rows.proofs.RangeLemmas.{bind_ok}
use Rattle.cop_table.specs.Reading.{◌>>=◌}
use Rattle.cop_setup.specs.declared.setting.Setting.{Setting}
use Rattle.cop_setup.specs.Settings.{IsFit, IsNumber, HasObject}
use Rattle.cop_net.specs.declared.faults.Refusal.{Refusal}
use Rattle.cop_net.specs.declared.devices.Device.{Device}
use Rattle.cop_net.specs.Devices.{File, Equipment, text_of, text_read, entries_of, with_device, described, device_added, no_device, devices_of}
use Rattle.cop_net.specs.Network.{Net, Accepted, IsNetwork, accepted, streams_of, network_of}
use Rattle.cop_net.specs.Steps.{folded}
use Rattle.cop_net.specs.Asking.{settings_asked, AreTaken}
use Rattle.cop_net.proofs.TakenLemmas.{asked_taken}
use Rattle.cop_dcf.specs.Settings.{dictionary_of, asked_of}

-- ---- the devices of a network

-- the settings of each device are taken by its dictionary
abbrev pub AllTaken : List (Option Device) → Type 0
AllTaken devices = (node : ℕ) (d : Device) → get_or devices node None ≡ Some d → AreTaken d.dictionary d.settings

none_there : (count node : ℕ) (d : Device) → get_or (replicate {A = Option Device} count None) node None ≡ Some d → ⊥
none_there zero node d h = cc
none_there (suc count) zero d h = cc
none_there (suc count) (suc node) d h = none_there count node d h

set_taken : (devices : List (Option Device)) (place : ℕ) (new : Device) → AllTaken devices → AreTaken new.dictionary new.settings → AllTaken (slice_set devices place (Some new))
set_taken devices place new before taken = λ node d h. by_place node d h (nat_le (length devices) place) refl
  where
    by_place : (node : ℕ) (d : Device) → get_or (slice_set devices place (Some new)) node None ≡ Some d → (b : Bool) → nat_le (length devices) place ≡ b → AreTaken d.dictionary d.settings
    by_place node d h b is = ⊎_elim
        (λ (same : node ≡ place). at_place (rw same at h) b is)
        (λ (other : node ≢ place). before node d (sym (get_or-set_other devices place node (Some new) None other) ∙ h))
        (cases_eq node place)
      where
        at_place : get_or (slice_set devices place (Some new)) place None ≡ Some d → (b : Bool) → nat_le (length devices) place ≡ b → AreTaken d.dictionary d.settings
        at_place h false is =
            let inside : place < length devices = grind (arith, nat_tests) in
            let both : ◌≡◌ {A = Option Device} (Some new) (Some d) = sym (get_or-set_same devices place (Some new) None inside) ∙ h in
            let one : new ≡ d = cc in
            subst (λ (e : Device). AreTaken e.dictionary e.settings) one taken
        at_place h true is =
            let past : length (slice_set devices place (Some new)) ≤ place = let size = length-set devices place (Some new) in let le : length devices ≤ place = grind (arith, nat_tests) in omega (arith, size, le) in
            let clash : ◌≡◌ {A = Option Device} None (Some d) = sym (get_or_past (slice_set devices place (Some new)) place None past) ∙ h in
            cc

step_taken : (texts : List ℕ → Option (List ℕ)) (found next : Equipment) (row : DeviceRow) → AreSettingRows row.settings → device_added texts found row ≡ Ok next → AllTaken found.devices → AllTaken next.devices
step_taken texts found next row are h before =
    let p = bind_ok (text_read texts row.place row.eds) (described found row) next h in
    let q = bind_ok (entries_of row.place row.node p.0) (λ entries. settings_asked row.node entries row.settings >>= λ settings. Ok (with_device found row p.0 entries settings)) next p.2 in
    let r = bind_ok (settings_asked row.node q.0 row.settings) (λ settings. Ok (with_device found row p.0 q.0 settings)) next q.2 in
    let whole : ◌≡◌ {A = Result Equipment Refusal} (Ok (with_device found row p.0 q.0 r.0)) (Ok next) = r.2 in
    let made : with_device found row p.0 q.0 r.0 ≡ next = cc in
    subst (λ (e : Equipment). AllTaken e.devices) made
    (set_taken found.devices row.node (record { place = row.place; dictionary = q.0; settings = r.0 }) before (asked_taken row.node q.0 row.settings r.0 are r.1))

folded_taken : (texts : List ℕ → Option (List ℕ)) (rows : List DeviceRow) (found last : Equipment) → All (λ row. AreSettingRows row.settings) rows → folded (device_added texts) found rows ≡ Ok last
    → AllTaken found.devices → AllTaken last.devices
unfolding folded
folded_taken texts [] found last are h before = let same : found ≡ last = cc in subst (λ (e : Equipment). AllTaken e.devices) same before
folded_taken texts (row ∷ rows) found last are h before =
    let p = bind_ok (device_added texts found row) (λ next. folded (device_added texts) next rows) last h in
    folded_taken texts rows p.0 last (All-tail (λ row. AreSettingRows row.settings) row rows are) p.2
    (step_taken texts found p.0 row (All-head (λ row. AreSettingRows row.settings) row rows are) p.1 before)

devices_taken : (wanted : List Rate) (files : List File) (rows : List DeviceRow) (equipment : Equipment) → All (λ row. AreSettingRows row.settings) rows → devices_of wanted files rows ≡ Ok equipment → AllTaken equipment.devices
unfolding devices_of
devices_taken wanted files rows equipment are h = folded_taken (text_of files) rows (no_device wanted) equipment are h (λ node d e. absurd (none_there 128 node d e))

-- a network's devices take what is asked of them
pub network_taken : (net : Net) → IsNetwork net → AllTaken net.equipment.devices
unfolding network_of
network_taken net is =
    let p = bind_ok (devices_of is.wanted is.files net.nodes.devices) _ (accepted net) is.made in
    let q = bind_ok (streams_of net.nodes.frames net.rows p.0) _ (accepted net) p.2 in
    let whole : ◌≡◌ {A = Result Accepted Refusal} (Ok (record { equipment = p.0; streams = q.0 })) (Ok (accepted net)) = q.2 in
    let same : record { equipment = p.0; streams = q.0 } ≡ accepted net = cc in
    subst (λ (m : Accepted). AllTaken m.equipment.devices) same (devices_taken is.wanted is.files net.nodes.devices p.0 is.nodes.settings p.1)

-- so do those of a node
pub node_taken : (net : Net) (node : ℕ) (dict : List Entry) → IsNetwork net → dictionary_of net node ≡ Some dict → AreTaken dict (asked_of net node)
node_taken net node dict is its = by_device (get_or net.equipment.devices node None) refl its
  where
    by_device : (o : Option Device) → get_or net.equipment.devices node None ≡ o → option_map (λ (d : Device). d.dictionary) o ≡ Some dict → AreTaken dict (option_map_or (λ (d : Device). d.settings) o [])
    by_device None e h = cc
    by_device (Some d) e h = let same : d.dictionary ≡ dict = cc in subst (λ x. AreTaken x d.settings) same (network_taken net is node d e)

-- a number of an object is of an object
pub numbers_have_objects : (dict : List Entry) (settings : List Setting) → All (IsNumber dict) settings → All (HasObject dict) settings
numbers_have_objects dict settings numbers = λ k d lt. let n = numbers k d lt in rw n.here refl
