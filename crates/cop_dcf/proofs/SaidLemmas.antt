-- What a DCF says of its node: the node, the rate, and the file that it was made of.
use Rattle.std.proofs.Common.{◌≡◌, ◌≤◌, ◌<◌, ◌+◌, ◌-◌, ◌^◌, ℕ, zero, suc, Bool, true, false, cond, ◌&&◌, ◌||◌, ◌==◌, nat_lt, List, [], ◌∷◌, ◌++◌, length, find, IsTrue, Option, Some, None, Ok, refl, sym, ap, ◌∙◌, subst, codes, decimal, arith}
use Rattle.std.specs.List.{list_all, list_any, cons_option}
use Rattle.std.specs.Str.Parse.{IsNumeral, AllDigits}
use Rattle.std.proofs.lemmas.Fmt.{decimal_is_IsNumeral}
use Rattle.std.proofs.lemmas.Str.Parse.{digit_from_value}
use Rattle.std.specs.Option.{option_map, option_map_or, option_and_then, option_or}
use Rattle.std.proofs.lemmas.Bool.Decides.{nat_tests}
use Rattle.std.proofs.lemmas.List.Folds.{find-append}
use Rattle.cop_frame.specs.declared.rates.Rate.{Rate}
use Rattle.cop_frame.specs.declared.rates.Rate.TheVariants.{Kbit10, Kbit20, Kbit50, Kbit125, Kbit250, Kbit500, Kbit800, Kbit1000}
use Rattle.cop_frame.specs.Rate.{kbits_of}
use Rattle.cop_eds.specs.declared.line.Kind.{Kind}
use Rattle.cop_eds.specs.declared.line.Kind.TheVariants.{Other, Header, Pair}
use Rattle.cop_eds.specs.Lines.{is_kind}
use Rattle.cop_eds.specs.Text.{trim, same_name, name_of}
use Rattle.cop_eds.specs.Names.{same_section}
use Rattle.cop_eds.specs.Sections.{value_in, section_of}
use Rattle.cop_eds.specs.Rows.{Row, rows_of, has_name, has_key}
use Rattle.cop_eds.specs.Edits.{Change, pair_of, is_entry, with_section, with_keys, section_count}
use Rattle.cop_eds.proofs.RowLemmas.{row_value, value_row, section_row}
use Rattle.cop_eds.proofs.EditLemmas.{hits, set_key_line, found_test, any_found, and_left}
use Rattle.cop_eds.proofs.KeepsLemmas.{IsEdit, with_both, kept_header}
use Rattle.cop_setup.specs.declared.setting.Setting.{Setting}
use Rattle.cop_dcf.specs.Dcf.{setting_in, value_set, values_from, number_of, file_number, device_number}
use Rattle.cop_dcf.proofs.ChangeLemmas.{places_set, has_still, has_own, own_file, own_device}
use Rattle.cop_eds.specs.Reading.{reading}
use Rattle.cop_rows.specs.Names.{is_name}
use Rattle.cop_dcf.specs.Free.{free_rows}
use Rattle.cop_dcf.proofs.RoundLemmas.{changes_are, edited}
use Rattle.cop_dcf.proofs.KeptRowLemmas.{edit_rows}
use Rattle.cop_dcf.specs.Planned.{SaysNode}
use Rattle.cop_dcf.specs.Dcf.{with_sections, changes_of, dcf_of}
use Rattle.cop_dcf.proofs.HexLemmas.{is_fine}
use Rattle.cop_dcf.proofs.HeldLemmas.{all_set, closed_find, and_then_by, fine_trim}

-- no value is set under another key
values_other : (f : ℕ → Option Setting) (section : ℕ) (key : List ℕ) (first count : ℕ) → same_name (codes "ParameterValue") key ≡ false → find (hits section key) (values_from f first count) ≡ None
unfolding values_from
values_other f section key first zero other = refl
values_other f section key first (suc count) other = by_value (f first) (values_other f section key (first + 1) count other)
  where
    by_value : (o : Option Setting) → find (hits section key) (values_from f (first + 1) count) ≡ None
        → find (hits section key) (cons_option (option_map (value_set first) o) (values_from f (first + 1) count)) ≡ None
    by_value None later = later
    by_value (Some s) later = by_hit (first == section)
      where
        by_hit : (b : Bool) → cond (b && same_name (codes "ParameterValue") key) (Some (value_set first s)) (find (hits section key) (values_from f (first + 1) count)) ≡ None
        by_hit true = rw other later
        by_hit false = later

same_number : (n : ℕ) → (n == n) ≡ true
same_number n = grind (arith, nat_tests)

no_hit : (b : Bool) → (b && false) ≡ false
no_hit true = refl
no_hit false = refl

found_origin : (file device node : ℕ) (eds_name name : List ℕ) (rate : Rate)
    → find (hits file (codes "LastEDS")) (places_set file eds_name device node name rate) ≡ Some (record { section = file; key = codes "LastEDS"; value = eds_name })
found_origin file device node eds_name name rate = rw (same_number file) refl

found_node : (file device node : ℕ) (eds_name name : List ℕ) (rate : Rate)
    → find (hits device (codes "NodeID")) (places_set file eds_name device node name rate) ≡ Some (record { section = device; key = codes "NodeID"; value = decimal node })
found_node file device node eds_name name rate = rw (no_hit (file == device), same_number device) refl

found_rate : (file device node : ℕ) (eds_name name : List ℕ) (rate : Rate)
    → find (hits device (codes "Baudrate")) (places_set file eds_name device node name rate) ≡ Some (record { section = device; key = codes "Baudrate"; value = decimal (kbits_of rate) })
found_rate file device node eds_name name rate = rw (no_hit (file == device), no_hit (device == device), same_number device) refl

-- digits have no blanks at their ends
digits_fine : (ds : List ℕ) → IsNumeral 10 ds → list_all is_fine ds ≡ true
digits_fine [] h = refl
digits_fine (d ∷ ds) h = all (d ∷ ds) h.1
  where
    all : (xs : List ℕ) → AllDigits 10 xs → list_all is_fine xs ≡ true
    all [] k = refl
    all (x ∷ xs) k =
        let range = digit_from_value x k.0 in
        let low : 48 ≤ x = range.0 in
        let here : nat_lt 47 x ≡ true = grind (arith, nat_tests) in
        rw here (all xs k.1)

-- the section of a name
is_other : (kind : Kind) → is_kind kind Header ≡ true → is_kind kind Other ≡ false
is_other Header h = refl
is_other Pair h = cc
is_other Other h = cc

own_entry : (name : List ℕ) (row : Row) → has_name name row ≡ true → is_entry row.section row ≡ true
own_entry name row h = rw (is_other row.kind (and_left (is_kind row.kind Header) (same_section (name_of row.body) name) h), same_number row.section) refl

-- a section that there is has a number, at which a header stands
record HasSection (name : List ℕ) (rows : List Row) : Type 0 where
  entry : list_any (is_entry (number_of name rows)) rows ≡ true
  its : option_map (λ row. row.section) (find (has_name name) rows) ≡ Some (number_of name rows)

has_section : (name : List ℕ) (rows : List Row) → list_any (has_name name) rows ≡ true → HasSection name rows
has_section name rows h = by_found (find (has_name name) rows) refl
  where
    missed : (q : Row → Bool) (xs : List Row) → find q xs ≡ None → list_any q xs ≡ true → ⊥
    missed q [] e k = cc
    missed q (x ∷ xs) e k = by_test (q x) e k (missed q xs)
      where
        by_test : (b : Bool) → cond b (Some x) (find q xs) ≡ None → b || list_any q xs ≡ true → (find q xs ≡ None → list_any q xs ≡ true → ⊥) → ⊥
        by_test true e k later = cc
        by_test false e k later = later e k

    by_found : (o : Option Row) → find (has_name name) rows ≡ o → HasSection name rows
    by_found None is = absurd (missed (has_name name) rows is h)
    by_found (Some row) is =
        let number : number_of name rows ≡ row.section = ap (λ o. option_map_or (λ (row : Row). row.section) o 0) is in
        record {
          entry = rw number (any_found (has_name name) (is_entry row.section) rows row is (own_entry name row (found_test (has_name name) rows row is)));
          its = ap (option_map (λ (row : Row). row.section)) is ∙ ap Some (sym number);
        }

file_there : (rows : List Row) → HasSection (codes "FileInfo") (with_both rows)
file_there rows = has_section (codes "FileInfo") (with_both rows) (has_still (has_name (codes "FileInfo")) (codes "DeviceComissioning") (with_section (codes "FileInfo") rows) (has_own (codes "FileInfo") rows own_file))

device_there : (rows : List Row) → HasSection (codes "DeviceComissioning") (with_both rows)
device_there rows = has_section (codes "DeviceComissioning") (with_both rows) (has_own (codes "DeviceComissioning") (with_section (codes "FileInfo") rows) own_device)

-- the value of a line, whose key is one of these
value_of_pair : (key : List ℕ) (value : List ℕ) (r : Row) → row_value (record r { body = key ++ 61 ∷ value }) ≡ cond (length (trim value) == 0) None (Some (trim value))
    → r.body ≡ key ++ 61 ∷ value → row_value r ≡ cond (length (trim value) == 0) None (Some (trim value))
value_of_pair key value r is body = ap (λ b. row_value (record r { body = b })) body ∙ is

digits_value : (ds : List ℕ) → IsNumeral 10 ds → cond (length (trim ds) == 0) None (Some (trim ds)) ≡ Some ds
digits_value [] h = absurd (omega (arith, h.0))
digits_value (d ∷ ds) h =
    let own : trim (d ∷ ds) ≡ d ∷ ds = fine_trim (d ∷ ds) (digits_fine (d ∷ ds) h) in
    let some : (length (d ∷ ds) == 0) ≡ false = grind (arith, nat_tests) in
    rw (own, some) refl

module _ (text new : List ℕ) (settings : List Setting) (file device node : ℕ) (eds_name name : List ℕ) (rate : Rate)
    (edit : IsEdit text new (all_set text settings file device node eds_name name rate)) where
  abbrev changes : List Change
  changes = all_set text settings file device node eds_name name rate

  abbrev places : List Change
  places = places_set file eds_name device node name rate

  -- what is set beside the values is read again
  said : (section : ℕ) (key : List ℕ) (c : Change) → same_name (codes "ParameterValue") key ≡ false → find (hits section key) places ≡ Some c → list_any (is_entry section) (with_both (rows_of text)) ≡ true
      → (r : Row) × (value_in new section key ≡ row_value r) × (r.body ≡ pair_of c)
  said section key c other found entry =
      let hit : find (hits section key) changes ≡ Some c =
      find-append (hits section key) (values_from (setting_in text settings) 0 (suc (section_count (rows_of text)))) places
      ∙ (ap (λ o. option_or o (find (hits section key) places)) (values_other (setting_in text settings) section key 0 (suc (section_count (rows_of text))) other) ∙ found) in
      let line = set_key_line section key c (with_both (rows_of text)) changes edit.clean edit.apart hit entry in (
        line.0,
        value_row new section key
            ∙ (ap (λ rows. option_and_then row_value (find (has_key section key) rows)) edit.rows
            ∙ (and_then_by _ _ (closed_find (has_key section key) row_value edit.newline (with_keys changes (with_both (rows_of text))) (λ row ending. refl) (λ row ending. refl))
            ∙ ap (option_and_then row_value) line.1)),
        line.2,
      )

  no_pair : (name : List ℕ) (row : Row) → row.kind ≡ Pair → has_name name row ≡ false
  no_pair name row kind = rw kind refl

  -- a section of the rows is one of the text
  section_is : (name : List ℕ) → HasSection name (with_both (rows_of text)) → section_of new name ≡ Some (number_of name (with_both (rows_of text)))
  section_is name has =
      section_row new name
      ∙ (ap (λ rows. option_map (λ (row : Row). row.section) (find (has_name name) rows)) edit.rows
      ∙ (kept_header (has_name name) changes edit.newline (with_both (rows_of text)) edit.clean (no_pair name) (λ row ending. refl) ∙ has.its))

rate_fits : (rate : Rate) → kbits_of rate < 2 ^ 64
rate_fits Kbit10 = omega arith
rate_fits Kbit20 = omega arith
rate_fits Kbit50 = omega arith
rate_fits Kbit125 = omega arith
rate_fits Kbit250 = omega arith
rate_fits Kbit500 = omega arith
rate_fits Kbit800 = omega arith
rate_fits Kbit1000 = omega arith

pub says_node : (text : List ℕ) (settings : List Setting) (node : ℕ) (name : List ℕ) (rate : Rate) (eds_name : List ℕ) → reading text ≡ Ok text → IsTrue (is_name name) → IsTrue (is_name eds_name) → node < 2 ^ 8
    → SaysNode (dcf_of text settings node name rate eds_name) node rate eds_name
says_node text settings node name rate eds_name accepted own other low =
    let edit = edited text settings node name rate eds_name accepted own other low in
    let file : ℕ = file_number (rows_of text) in
    let device : ℕ = device_number (rows_of text) in
    let dcf : List ℕ = dcf_of text settings node name rate eds_name in
    let files = file_there (rows_of text) in
    let devices = device_there (rows_of text) in
    let id = said text dcf settings file device node eds_name name rate edit device (codes "NodeID") _ refl (found_node file device node eds_name name rate) devices.entry in
    let kbits = said text dcf settings file device node eds_name name rate edit device (codes "Baudrate") _ refl (found_rate file device node eds_name name rate) devices.entry in
    let origin = said text dcf settings file device node eds_name name rate edit file (codes "LastEDS") _ refl (found_origin file device node eds_name name rate) files.entry in
    record {
      device = device;
      commissioning = section_is text dcf settings file device node eds_name name rate edit (codes "DeviceComissioning") devices;
      node_id = id.1 ∙ (value_of_pair (codes "NodeID") (decimal node) id.0 refl id.2 ∙ digits_value (decimal node) (decimal_is_IsNumeral node (omega arith)).0);
      baudrate = kbits.1 ∙ (value_of_pair (codes "Baudrate") (decimal (kbits_of rate)) kbits.0 refl kbits.2 ∙ digits_value (decimal (kbits_of rate)) (decimal_is_IsNumeral (kbits_of rate) (rate_fits rate)).0);
      file = file;
      info = section_is text dcf settings file device node eds_name name rate edit (codes "FileInfo") files;
      origin = origin.1 ∙ value_of_pair (codes "LastEDS") eds_name origin.0 refl origin.2;
    }

-- the lines whose keys are not set stay
pub other_lines : (text : List ℕ) (settings : List Setting) (node : ℕ) (name : List ℕ) (rate : Rate) (eds_name : List ℕ) → reading text ≡ Ok text → IsTrue (is_name name) → IsTrue (is_name eds_name) → node < 2 ^ 8
    → free_rows (changes_of text settings node name rate eds_name) (rows_of (dcf_of text settings node name rate eds_name)) ≡ free_rows (changes_of text settings node name rate eds_name) (with_sections (rows_of text))
other_lines text settings node name rate eds_name accepted own other low =
    let dcf : List ℕ = dcf_of text settings node name rate eds_name in
    let P : List Change → Type 0 = λ cs. free_rows cs (rows_of dcf) ≡ free_rows cs (with_sections (rows_of text)) in
    subst P (sym (changes_are text settings node name rate eds_name)) (edit_rows text dcf _ (edited text settings node name rate eds_name accepted own other low))
