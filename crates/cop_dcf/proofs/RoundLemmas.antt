-- A DCF is read again.
use Rattle.std.proofs.Common.{◌≡◌, ◌≤◌, ◌<◌, ◌+◌, ◌*◌, ◌^◌, ℕ, Bool, true, false, nat_lt, List, [], ◌∷◌, ◌++◌, length, map, All, IsTrue, Ok, refl, sym, ap, ◌∙◌, arith, add-one, append_assoc}
use Rattle.std.specs.List.{list_all}
use Rattle.std.proofs.lemmas.Bool.Decides.{nat_tests}
use Rattle.cop_frame.specs.declared.rates.Rate.{Rate}
use Rattle.cop_eds.specs.Reading.{reading}
use Rattle.cop_eds.specs.Rows.{rows_of}
use Rattle.cop_eds.specs.Edits.{Change, newline_of, section_count, with_keys, text_with}
use Rattle.cop_eds.proofs.EditLemmas.{and_left, and_right}
use Rattle.cop_eds.proofs.KeepsLemmas.{IsEdit, with_both}
use Rattle.cop_dict.specs.Find.{Entry}
use Rattle.cop_dict.specs.Build.{built}
use Rattle.cop_rows.specs.Names.{is_name, is_name_code}
use Rattle.cop_setup.specs.declared.setting.Setting.{Setting}
use Rattle.cop_setup.specs.Width.{size_of}
use Rattle.cop_dcf.specs.Dcf.{hexadecimal, setting_in, values_from, origin_set, device_set, file_number, device_number, changes_of, dcf_of}
use Rattle.cop_setup.specs.Settings.{bytes_of, IsNumber}
use Rattle.cop_dcf.specs.Planned.{settled, IsReadAgain}
use Rattle.cop_dcf.proofs.WrittenLemmas.{rows_written}
use Rattle.cop_dcf.proofs.ChangeLemmas.{is_plain, places_set, AreGood, all_good, file_past, device_past}
use Rattle.cop_dcf.proofs.HexLemmas.{is_fine, all_fine}
use Rattle.cop_dcf.proofs.BuildLemmas.{low_are_bytes, entry_set}
use Rattle.cop_dcf.proofs.PlannedLemmas.{last_word, planned_is}
use Rattle.cop_dcf.proofs.EditedLemmas.{edit_accepted, edit_built}
use Rattle.cop_dcf.proofs.HeldLemmas.{all_set, none_before, are_set}

plainer : (xs : List ℕ) → list_all is_fine xs ≡ true → list_all is_plain xs ≡ true
plainer [] h = refl
plainer (x ∷ xs) h =
    let above : nat_lt 47 x ≡ true = and_left _ _ h in
    let here : nat_lt 31 x ≡ true = grind (arith, nat_tests) in
    rw here (plainer xs (and_right (nat_lt 47 x) _ h))

number_plain : (s : Setting) → list_all is_plain (hexadecimal (bytes_of s)) ≡ true
number_plain s = plainer (hexadecimal (bytes_of s)) (all_fine (bytes_of s) (low_are_bytes 0 (size_of s.width) s.value))

code_plain : (c : ℕ) → is_name_code c ≡ true → nat_lt 31 c ≡ true
code_plain c h = by_test (nat_lt 31 c) refl
  where
    by_test : (b : Bool) → nat_lt 31 c ≡ b → b ≡ true
    by_test true e = refl
    by_test false e = absurd (grind (arith, nat_tests))

codes_plain : (xs : List ℕ) → list_all is_name_code xs ≡ true → list_all is_plain xs ≡ true
codes_plain [] h = refl
codes_plain (x ∷ xs) h =
    let here : nat_lt 31 x ≡ true = code_plain x (and_left _ _ h) in
    rw here (codes_plain xs (and_right (is_name_code x) _ h))

name_plain : (name : List ℕ) → IsTrue (is_name name) → list_all is_plain name ≡ true
name_plain name h = codes_plain name (and_right _ _ h)

module _ (text : List ℕ) (settings : List Setting) (node : ℕ) (name : List ℕ) (rate : Rate) (eds_name : List ℕ) where
  abbrev all : List Change
  all = all_set text settings (file_number (rows_of text)) (device_number (rows_of text)) node eds_name name rate

  pub changes_are : changes_of text settings node name rate eds_name ≡ all
  changes_are =
      append_assoc (values_from (setting_in text settings) 0 (section_count (rows_of text) + 1)) (origin_set (file_number (rows_of text)) eds_name) (device_set (device_number (rows_of text)) node name rate)
      ∙ ap (λ n. values_from (setting_in text settings) 0 n ++ places_set (file_number (rows_of text)) eds_name (device_number (rows_of text)) node name rate) (add-one (section_count (rows_of text)))

  abbrev dcf : List ℕ
  dcf = dcf_of text settings node name rate eds_name

  module _ (accepted : reading text ≡ Ok text) (own : IsTrue (is_name name)) (other : IsTrue (is_name eds_name)) (low : node < 2 ^ 8) where
    good : AreGood all
    good =
        all_good (setting_in text settings) (section_count (rows_of text)) (file_number (rows_of text)) (device_number (rows_of text)) node eds_name name rate
        (none_before text settings) (file_past text) (device_past text) number_plain (name_plain eds_name other) (name_plain name own) (omega arith)

    -- the DCF is the text with these changes
    pub edited : IsEdit text dcf all
    edited = record {
      newline = newline_of (with_keys all (with_both (rows_of text)));
      rows = ap (λ cs. rows_of (text_with text (with_keys cs (with_both (rows_of text))))) changes_are ∙ rows_written text all accepted good.clean good.apart good.lines;
      clean = good.clean;
      apart = good.apart;
      ours = good.ours;
    }

  collected : (es : List Entry) → map (λ e. settled (entry_set (last_word settings) e)) es ≡ map settled (map (entry_set (last_word settings)) es)
  collected [] = refl
  collected (e ∷ es) = ap (λ rest. settled (entry_set (last_word settings) e) ∷ rest) (collected es)

  pub round : (dict : List Entry) → reading text ≡ Ok text → built text node ≡ Ok dict → All (IsNumber dict) settings → IsTrue (is_name name) → IsTrue (is_name eds_name) → node < 2 ^ 8
      → length (dcf_of text settings node name rate eds_name) ≤ 4 * 1024 * 1024 → IsReadAgain (dcf_of text settings node name rate eds_name) node dict settings
  round dict accepted described numbers own other low small =
      let edit = edited accepted own other low in
      record {
        accepted = edit_accepted text dcf all edit accepted small;
        dictionary =
            edit_built text dcf all node (last_word settings) dict edit accepted
            (are_set text dcf settings (file_number (rows_of text)) (device_number (rows_of text)) node node eds_name name rate dict edit described numbers) described
            ∙ ap Ok (collected dict ∙ ap (map settled) (sym (planned_is settings dict)));
      }
