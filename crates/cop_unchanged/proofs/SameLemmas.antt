-- A device that has what one of two texts describes has what the other does.
use Rattle.std.proofs.Common.{◌≡◌, ℕ, ◌*◌, ◌≤◌, Bool, true, false, nat_lt, if◌then◌else◌, List, map, length, Some, Result, Ok, refl, sym, ◌∙◌, ap}
use Rattle.std.proofs.lemmas.Bool.{ltb-false}
use Rattle.cop_frame.specs.declared.rates.Rate.{Rate}
use Rattle.cop_eds.specs.declared.fault.Refusal.{Refusal}
use Rattle.cop_eds.specs.declared.fault.Rule.TheVariants as rules
use Rattle.cop_eds.specs.Steps.{refuse}
use Rattle.cop_eds.specs.Reading.{at_most, reading}
use Rattle.cop_eds.proofs.ReadingLemmas.{bind_ok}
use Rattle.cop_dict.specs.Find.{Entry}
use Rattle.cop_compare.proofs.OneDictionary.{one_dictionary}
use Rattle.cop_rows.specs.declared.node_table.DeviceRow.{DeviceRow}
use Rattle.cop_net.specs.Devices.{File, text_of}
use Rattle.cop_net.specs.Network.{Net}
use Rattle.cop_dcf.specs.Planned.{settled}
use Rattle.cop_boot.specs.Device.{Attached}
use Rattle.cop_boot.specs.NetworkBoot.{HasWhatItsDcfSays}
use Rattle.cop_unchanged.specs.Unchanged.{dcf_by, AreSame}

short_of : (limit : ℕ) (text other : List ℕ) → at_most limit text ≡ Ok other → length text ≤ limit
short_of limit text other is = go (nat_lt limit (length text)) refl is
  where
    go : (b : Bool) → nat_lt limit (length text) ≡ b → ◌≡◌ {A = Result (List ℕ) Refusal} (if b then refuse rules.TooLarge 0 else Ok text) (Ok other) → length text ≤ limit
    go true long bad = cc
    go false short _ = ltb-false limit (length text) short

-- a text that is read is not too long
short : (text : List ℕ) → reading text ≡ Ok text → length text ≤ 4 * 1024 * 1024
unfolding reading
short text is = let first = bind_ok (at_most (4 * 1024 * 1024) text) _ text is in short_of (4 * 1024 * 1024) text first.0 first.1

pub needs_none : (old new : Net) (old_files new_files : List File) (old_ids new_ids : List ℕ) (old_rate new_rate : Rate) (node : ℕ) (old_row new_row : DeviceRow) (after : List Attached) (text : List ℕ)
    → (has : HasWhatItsDcfSays old old_files old_ids old_rate node old_row after) → text_of new_files new_row.eds ≡ Some text
    → AreSame (dcf_by old old_ids old_rate node old_row has.text) (dcf_by new new_ids new_rate node new_row text) node
    → HasWhatItsDcfSays new new_files new_ids new_rate node new_row after
needs_none old new old_files new_files old_ids new_ids old_rate new_rate node old_row new_row after text has there same = record {
  text = text;
  from = there;
  device = has.device;
  there = has.there;
  says = λ _. same.described_now ∙ ap (λ d. Ok d) (one ∙ is);
}
  where
    one : same.now ≡ same.before
    one = one_dictionary (dcf_by old old_ids old_rate node old_row has.text) (dcf_by new new_ids new_rate node new_row text) node same.before same.now same.described_before same.described_now same.none

    said : ◌≡◌ {A = Result (List Entry) Refusal} (Ok same.before) (Ok (map settled has.device.dict))
    said = sym same.described_before ∙ has.says (short (dcf_by old old_ids old_rate node old_row has.text) same.accepted)

    is : same.before ≡ map settled has.device.dict
    is = let e = said in cc
