-- The DCF says of each object what the settings say.
use Rattle.std.specs.Prelude.{slice_index}
use Rattle.std.proofs.Common.{◌≡◌, ◌≤◌, ◌<◌, ◌+◌, ◌-◌, ◌*◌, ◌^◌, ℕ, zero, suc, Bool, true, false, cond, ◌&&◌, ◌||◌, ◌==◌, nat_lt, List, [], ◌∷◌, ◌++◌, length, reverse, get_or, find, All, IfSome, Option, Some, None, Ok, refl, sym, ap, ◌∙◌, subst, codes, arith}
use Rattle.std.specs.List.{list_all, list_any, cons_option, flat_map}
use Rattle.std.specs.Option.{option_map, option_map_or, option_and_then, option_or}
use Rattle.std.proofs.lemmas.Bool.Decides.{nat_tests}
use Rattle.std.proofs.lemmas.Grind.{reverse_onto}
use Rattle.std.proofs.lemmas.List.{reverse-reverse}
use Rattle.std.proofs.lemmas.List.Elements.{All-head, All-tail}
use Rattle.std.proofs.lemmas.List.Folds.{find-append, list_all-append}
use Rattle.cop_frame.specs.declared.rates.Rate.{Rate}
use Rattle.cop_eds.specs.declared.description.Object.{Object}
use Rattle.cop_eds.specs.Text.{trim_start, trim}
use Rattle.cop_eds.specs.Sections.{value_in}
use Rattle.cop_eds.specs.Steps.{◌>>=◌}
use Rattle.cop_eds.specs.Objects.{is_at, objects_of}
use Rattle.cop_eds.specs.Rows.{Row, rows_of, has_name, has_key}
use Rattle.cop_eds.specs.Edits.{Change, pair_of, is_entry, header_row, newline_of, with_section, with_keys, section_count, ended, closed}
use Rattle.cop_eds.proofs.OrderLemmas.{objects_sorted}
use Rattle.cop_eds.proofs.SearchLemmas.{object_here}
use Rattle.cop_eds.proofs.RowLemmas.{row_value, value_row}
use Rattle.cop_eds.proofs.EditLemmas.{hits, set_key_line, and_left, and_right, false_by, found_test, sections_equal}
use Rattle.cop_eds.proofs.KeepsLemmas.{IsEdit, with_both, kept_key}
use Rattle.cop_eds.proofs.ReadingLemmas.{bind_ok}
use Rattle.cop_eds.proofs.SpelledLemmas.{AreSpelled}
use Rattle.cop_dict.specs.declared.data_type.DataType.{DataType}
use Rattle.cop_dict.specs.declared.data_type.DataType.TheVariants as types
use Rattle.cop_dict.specs.Types.{type_numbered, bits_of}
use Rattle.cop_dict.specs.Find as dictionary
use Rattle.cop_dict.specs.Build.{entry_of_type, entry_built, collected, built}
use Rattle.cop_setup.specs.declared.setting.Setting.{Setting}
use Rattle.cop_setup.specs.declared.setting.Width.{Width}
use Rattle.cop_setup.specs.declared.setting.Width.TheVariants.{One, Two, Four}
use Rattle.cop_setup.specs.Width.{size_of}
use Rattle.cop_dcf.specs.Dcf.{digits_of, hexadecimal, is_of, setting_in, value_set, values_from}
use Rattle.cop_setup.specs.Settings.{bytes_of, has_numbers, IsNumber}
use Rattle.cop_dcf.proofs.HomeLemmas.{IsHome, found_home, objects_home, spelled_rows, home_row, home_past, home_entry, same_home}
use Rattle.cop_dcf.proofs.WrittenLemmas.{last_section, count_is}
use Rattle.cop_dcf.proofs.ChangeLemmas.{other_none, places_set, places_other, values_past, has_still}
use Rattle.cop_dcf.proofs.HexLemmas.{is_fine, all_fine}
use Rattle.cop_dcf.proofs.BuildLemmas.{Holds, IsSetAs, AreSet, low_are_bytes}
use Rattle.cop_dict.proofs.AgreeLemmas.{ok_same, parts_of}
use Rattle.cop_dcf.proofs.PlannedLemmas.{word_of, last_word}

-- ---- the last setting of an address

abbrev pub at_address : ℕ → ℕ → Setting → Bool
at_address index sub s = (index == s.index) && (sub == s.sub)

last_is : (settings : List Setting) (index sub : ℕ) → last_word settings index sub ≡ option_map word_of (find (at_address index sub) (reverse settings))
last_is [] index sub = refl
last_is (x ∷ xs) index sub =
    ap (λ o. option_or o (cond (at_address index sub x) (Some (word_of x)) None)) (last_is xs index sub)
    ∙ by_found (find (at_address index sub) (reverse xs)) (at_address index sub x)
    ∙ sym (ap (option_map word_of) (ap (find (at_address index sub)) (reverse_onto xs x []) ∙ find-append (at_address index sub) (reverse xs) (x ∷ [])))
  where
    by_found : (o : Option Setting) (b : Bool) → option_or (option_map word_of o) (cond b (Some (word_of x)) None) ≡ option_map word_of (option_or o (cond b (Some x) None))
    by_found None true = refl
    by_found None false = refl
    by_found (Some s) b = refl

find_same : {A : Type 0} (p q : A → Bool) (xs : List A) → ((x : A) → p x ≡ q x) → find p xs ≡ find q xs
find_same p q [] same = refl
find_same p q (x ∷ xs) same = rw (same x) (ap (λ o. cond (q x) (Some x) o) (find_same p q xs same))

find_none : {A : Type 0} (p : A → Bool) (xs : List A) → ((x : A) → p x ≡ false) → find p xs ≡ None
find_none p [] none = refl
find_none p (x ∷ xs) none = rw (none x) (find_none p xs none)

none_find : {A : Type 0} (p : A → Bool) (xs : List A) → list_any p xs ≡ false → find p xs ≡ None
none_find p [] none = refl
none_find p (x ∷ xs) none = by_test (p x) none (none_find p xs)
  where
    by_test : (b : Bool) → b || list_any p xs ≡ false → (list_any p xs ≡ false → find p xs ≡ None) → cond b (Some x) (find p xs) ≡ None
    by_test true k later = cc
    by_test false k later = later k

find_any : {A : Type 0} (p : A → Bool) (xs : List A) → find p xs ≡ None → list_any p xs ≡ false
find_any p [] none = refl
find_any p (x ∷ xs) none = by_test (p x) none (find_any p xs)
  where
    by_test : (b : Bool) → cond b (Some x) (find p xs) ≡ None → (find p xs ≡ None → list_any p xs ≡ false) → b || list_any p xs ≡ false
    by_test true k later = cc
    by_test false k later = later k

-- what is found from the end is one of them
last_all : (P : Setting → Type 0) (p : Setting → Bool) (xs : List Setting) (x : Setting) → All P xs → find p (reverse xs) ≡ Some x → P x
last_all P p [] x all e = cc
last_all P p (y ∷ ys) x all e = by_later (find p (reverse ys)) refl (sym (ap (find p) (reverse_onto ys y []) ∙ find-append p (reverse ys) (y ∷ [])) ∙ e) (last_all P p ys x (All-tail P y ys all))
  where
    by_own : (b : Bool) → cond b (Some y) None ≡ Some x → P x
    by_own true k = let same : y ≡ x = cc in subst P same (All-head P y ys all)
    by_own false k = cc

    by_later : (o : Option Setting) → find p (reverse ys) ≡ o → option_or o (cond (p y) (Some y) None) ≡ Some x → (find p (reverse ys) ≡ Some x → P x) → P x
    by_later None is k later = by_own (p y) k
    by_later (Some z) is k later = later (is ∙ k)

clash : {A : Type 0} (b : Bool) → b ≡ true → b ≡ false → A
clash b e f = let bad : true ≡ false = sym e ∙ f in absurd (cc)

-- ---- the section of an object

module _ (text : List ℕ) (o : Object) (own : find (is_at o.index o.sub) (objects_of text) ≡ Some o) where
  pub home : IsHome text o
  home = found_home text (is_at o.index o.sub) (objects_of text) o (objects_home text) own

  moved : (s : Setting) → at_address o.index o.sub s ≡ true → find (is_at s.index s.sub) (objects_of text) ≡ Some o
  moved s h =
      let index : o.index ≡ s.index = sections_equal o.index s.index (and_left _ _ h) in
      let sub : o.sub ≡ s.sub = sections_equal o.sub s.sub (and_right (o.index == s.index) _ h) in
      ap (λ i. find (is_at i s.sub) (objects_of text)) (sym index) ∙ ap (λ j. find (is_at o.index j) (objects_of text)) (sym sub) ∙ own

  -- a setting of the object is one of its section
  test_same : (s : Setting) → is_of text o.place.section s ≡ at_address o.index o.sub s
  test_same s = by_found (find (is_at s.index s.sub) (objects_of text)) refl
    where
      by_test : (p : Object) → find (is_at s.index s.sub) (objects_of text) ≡ Some p → (b : Bool) → (p.place.section == o.place.section) ≡ b → b ≡ at_address o.index o.sub s
      by_test p is true e =
          let test : is_at s.index s.sub p ≡ true = found_test (is_at s.index s.sub) (objects_of text) p is in
          let there : IsHome text p = found_home text (is_at s.index s.sub) (objects_of text) p (objects_home text) is in
          let same = same_home text p o there home (sections_equal p.place.section o.place.section e) in
          let index : p.index ≡ s.index = sections_equal p.index s.index (and_left _ _ test) in
          let sub : p.sub ≡ s.sub = sections_equal p.sub s.sub (and_right (p.index == s.index) _ test) in
          let first : (o.index == s.index) ≡ true = let e0 = same.0 in grind (arith, nat_tests) in
          let second : (o.sub == s.sub) ≡ true = let e1 = same.1 in grind (arith, nat_tests) in
          rw (first, second) refl
      by_test p is false e = sym (false_by (at_address o.index o.sub s) (λ h.
          let both : Some p ≡ Some o = sym is ∙ moved s h in
          let same : p ≡ o = cc in
          let yes : (p.place.section == o.place.section) ≡ true = let place : p.place.section ≡ o.place.section = ap (λ (q : Object). q.place.section) same in grind (arith, nat_tests) in
          clash (p.place.section == o.place.section) yes e))

      by_found : (x : Option Object) → find (is_at s.index s.sub) (objects_of text) ≡ x
          → option_map_or (λ n. n == o.place.section) (option_map (λ (q : Object). q.place.section) x) false ≡ at_address o.index o.sub s
      by_found None is = sym (false_by (at_address o.index o.sub s) (λ h. let both : None ≡ Some o = sym is ∙ moved s h in cc))
      by_found (Some p) is = by_test p is (p.place.section == o.place.section) refl

  -- the last setting of the section is the object's
  pub setting_is : (settings : List Setting) → last_word settings o.index o.sub ≡ option_map word_of (setting_in text settings o.place.section)
  setting_is settings = last_is settings o.index o.sub ∙ ap (option_map word_of) (sym (find_same (is_of text o.place.section) (at_address o.index o.sub) (reverse settings) test_same))

-- no setting is of section 0
pub none_before : (text : List ℕ) (settings : List Setting) → setting_in text settings 0 ≡ None
none_before text settings = find_none (is_of text 0) (reverse settings) each
  where
    each : (s : Setting) → is_of text 0 s ≡ false
    each s = by_found (find (is_at s.index s.sub) (objects_of text)) refl
      where
        by_found : (x : Option Object) → find (is_at s.index s.sub) (objects_of text) ≡ x → option_map_or (λ n. n == 0) (option_map (λ (q : Object). q.place.section) x) false ≡ false
        by_found None is = refl
        by_found (Some p) is =
            let past : 0 < p.place.section = home_past text p (found_home text (is_at s.index s.sub) (objects_of text) p (objects_home text) is) in
            grind (arith, nat_tests)

-- ---- the change of a section

values_find : (f : ℕ → Option Setting) (section first count : ℕ) → first ≤ section → section < first + count
    → find (hits section (codes "ParameterValue")) (values_from f first count) ≡ option_map (value_set section) (f section)
unfolding values_from
values_find f section first zero low high = absurd (omega (arith, low, high))
values_find f section first (suc count) low high = by_own (first == section) refl (λ past. values_find f section (first + 1) count past (omega arith))
  where
    rest : List Change
    rest = values_from f (first + 1) count

    here : first ≡ section → (o : Option Setting) → find (hits section (codes "ParameterValue")) rest ≡ None
        → find (hits section (codes "ParameterValue")) (cons_option (option_map (value_set first) o) rest) ≡ option_map (value_set first) o
    here e None none = none
    here e (Some s) none =
        let yes : (first == section) ≡ true = grind (arith, nat_tests) in
        rw yes refl

    skip : (first == section) ≡ false → (o : Option Setting) → find (hits section (codes "ParameterValue")) rest ≡ option_map (value_set section) (f section)
        → find (hits section (codes "ParameterValue")) (cons_option (option_map (value_set first) o) rest) ≡ option_map (value_set section) (f section)
    skip e None later = later
    skip e (Some s) later = rw e later

    by_own : (b : Bool) → (first == section) ≡ b → (first + 1 ≤ section → find (hits section (codes "ParameterValue")) rest ≡ option_map (value_set section) (f section))
        → find (hits section (codes "ParameterValue")) (cons_option (option_map (value_set first) (f first)) rest) ≡ option_map (value_set section) (f section)
    by_own true e later =
        let same : first ≡ section = sections_equal first section e in
        here same (f first) (none_find _ rest (values_past f section (codes "ParameterValue") (first + 1) count (omega (arith, same))))
        ∙ ap (λ n. option_map (value_set n) (f n)) same
    by_own false e later =
        let other : first + 1 ≤ section = grind (arith, nat_tests) in
        skip e (f first) (later other)

-- a section that an object has is one of those that are counted
section_low : (before : ℕ) (q : Row → Bool) (rows : List Row) (r : Row) → AreSpelled before rows → find q rows ≡ Some r → (r.section ≤ last_section before rows) × (before ≤ last_section before rows)
unfolding AreSpelled
section_low before q [] r h e = cc
section_low before q (x ∷ xs) r h e = by_test (q x) e (section_low x.section q xs r h.2)
  where
    place : before ≤ x.section
    place = let p = h.0.section in omega (arith, p)

    by_test : (b : Bool) → cond b (Some x) (find q xs) ≡ Some r → (find q xs ≡ Some r → (r.section ≤ last_section x.section xs) × (x.section ≤ last_section x.section xs))
        → (r.section ≤ last_section x.section xs) × (before ≤ last_section x.section xs)
    by_test true k later =
        let same : x ≡ r = cc in
        let low : x.section ≤ last_section x.section xs = rise x.section xs h.2 in
        let there : r.section ≡ x.section = ap (λ (y : Row). y.section) (sym same) in
        (omega (arith, low, there), omega (arith, low, place))
      where
        rise : (n : ℕ) (ys : List Row) → AreSpelled n ys → n ≤ last_section n ys
        rise n [] k = omega arith
        rise n (y ∷ ys) k = let l = rise y.section ys k.2 in let p = k.0.section in omega (arith, l, p)
    by_test false k later = let l = later k in (l.0, let m = l.1 in omega (arith, m, place))

pub home_low : (text : List ℕ) (o : Object) → IsHome text o → o.place.section ≤ section_count (rows_of text)
home_low text o h =
    let r = home_row text o h in
    let l = section_low 0 _ (rows_of text) r.row (spelled_rows text) r.found in
    let count : last_section 0 (rows_of text) ≡ section_count (rows_of text) = count_is (rows_of text) in
    let low = l.0 in
    omega (arith, low, count, r.place)

module _ (text : List ℕ) (settings : List Setting) (file device node : ℕ) (eds_name name : List ℕ) (rate : Rate) where
  abbrev pub all_set : List Change
  all_set = values_from (setting_in text settings) 0 (suc (section_count (rows_of text))) ++ places_set file eds_name device node name rate

  change_found : (section : ℕ) → section ≤ section_count (rows_of text) → find (hits section (codes "ParameterValue")) all_set ≡ option_map (value_set section) (setting_in text settings section)
  change_found section low =
      find-append (hits section (codes "ParameterValue")) (values_from (setting_in text settings) 0 (suc (section_count (rows_of text)))) (places_set file eds_name device node name rate)
      ∙ ap (λ o. option_or o (find (hits section (codes "ParameterValue")) (places_set file eds_name device node name rate))) (values_find (setting_in text settings) section 0 (suc (section_count (rows_of text))) (omega arith) (omega (arith, low)))
      ∙ ap (option_or (option_map (value_set section) (setting_in text settings section)))
      (none_find (hits section (codes "ParameterValue")) (places_set file eds_name device node name rate) (other_none section (codes "ParameterValue") (places_set file eds_name device node name rate) (places_other file device node eds_name name rate)))
      ∙ or_none (option_map (value_set section) (setting_in text settings section))
    where
      or_none : (o : Option Change) → option_or o None ≡ o
      or_none None = refl
      or_none (Some c) = refl

-- ---- the value that the DCF has

-- a blank is below all bytes of a number
fine_first : (xs : List ℕ) → list_all is_fine xs ≡ true → trim_start xs ≡ xs
fine_first [] h = refl
fine_first (x ∷ xs) h =
    let here : nat_lt 47 x ≡ true = and_left _ _ h in
    let space : (x == 32) ≡ false = grind (arith, nat_tests) in
    let tab : (x == 9) ≡ false = grind (arith, nat_tests) in
    rw (space, tab) refl

fine_back : (xs : List ℕ) → list_all is_fine xs ≡ true → list_all is_fine (reverse xs) ≡ true
fine_back [] h = refl
fine_back (x ∷ xs) h =
    let here : nat_lt 47 x ≡ true = and_left _ _ h in
    ap (list_all is_fine) (reverse_onto xs x []) ∙ list_all-append is_fine (reverse xs) (x ∷ []) ∙ (rw (fine_back xs (and_right (nat_lt 47 x) _ h), here) refl)

pub fine_trim : (xs : List ℕ) → list_all is_fine xs ≡ true → trim xs ≡ xs
fine_trim xs h =
    ap (λ ys. reverse (trim_start (reverse ys))) (fine_first xs h) ∙ ap reverse (fine_first (reverse xs) (fine_back xs h)) ∙ reverse-reverse xs

-- the value of a line that is set
set_value : (r : Row) (section : ℕ) (s : Setting) → r.body ≡ pair_of (value_set section s) → row_value r ≡ Some (hexadecimal (bytes_of s))
set_value r section s body =
    let value : List ℕ = hexadecimal (bytes_of s) in
    let own : trim value ≡ value = fine_trim value (all_fine (bytes_of s) (low_are_bytes 0 (size_of s.width) s.value)) in
    ap (λ b. row_value (record r { body = b })) body ∙ by_value value own (long (flat_map digits_of (reverse (bytes_of s))))
  where
    long : (xs : List ℕ) → (length (48 ∷ 120 ∷ xs) == 0) ≡ false
    long xs = grind (arith, nat_tests)

    by_value : (value : List ℕ) → trim value ≡ value → (length value == 0) ≡ false → cond (length (trim value) == 0) None (Some (trim value)) ≡ Some value
    by_value value own some = rw (own, some) refl

-- ends of lines are of no account
pub closed_find : {B : Type 0} (q : Row → Bool) (f : Row → B) (newline : List ℕ) (rows : List Row) → ((row : Row) (ending : List ℕ) → q (record row { ending = ending }) ≡ q row)
    → ((row : Row) (ending : List ℕ) → f (record row { ending = ending }) ≡ f row) → option_map f (find q (closed newline rows)) ≡ option_map f (find q rows)
closed_find {B = B} q f newline [] same value = refl
closed_find {B = B} q f newline (row ∷ []) same value = refl
closed_find {B = B} q f newline (row ∷ next ∷ rows) same value = rw (blind q same) (by_test (q row) (closed_find q f newline (next ∷ rows) same value))
  where
    blind : {C : Type 0} (g : Row → C) → ((row : Row) (ending : List ℕ) → g (record row { ending = ending }) ≡ g row) → g (ended newline row) ≡ g row
    blind {C} g h = by_ending (length row.ending == 0)
      where
        by_ending : (b : Bool) → g (cond b (record row { ending = cond (slice_index row.body (length row.body - 1) == 13) (13 ∷ 10 ∷ []) newline }) row) ≡ g row
        by_ending true = h row _
        by_ending false = refl

    by_test : (b : Bool) → option_map f (find q (closed newline (next ∷ rows))) ≡ option_map f (find q (next ∷ rows))
        → option_map f (cond b (Some (ended newline row)) (find q (closed newline (next ∷ rows)))) ≡ option_map f (cond b (Some row) (find q (next ∷ rows)))
    by_test true later = ap Some (blind f value)
    by_test false later = later

-- keys are where they were when a section is put at the end
section_keys : (section : ℕ) (key name : List ℕ) (rows : List Row) → find (has_key section key) (with_section name rows) ≡ find (has_key section key) rows
section_keys section key name rows = by_test (list_any (has_name name) rows)
  where
    or_none : (o : Option Row) → option_or o None ≡ o
    or_none None = refl
    or_none (Some r) = refl

    by_test : (b : Bool) → find (has_key section key) (cond b rows (rows ++ header_row (newline_of rows) (section_count rows + 1) name ∷ [])) ≡ find (has_key section key) rows
    by_test true = refl
    by_test false = find-append (has_key section key) rows (header_row (newline_of rows) (section_count rows + 1) name ∷ []) ∙ or_none (find (has_key section key) rows)

both_keys : (section : ℕ) (key : List ℕ) (rows : List Row) → find (has_key section key) (with_both rows) ≡ find (has_key section key) rows
both_keys section key rows = section_keys section key (codes "DeviceComissioning") (with_section (codes "FileInfo") rows) ∙ section_keys section key (codes "FileInfo") rows

pub and_then_by : (o p : Option Row) → option_map row_value o ≡ option_map row_value p → option_and_then row_value o ≡ option_and_then row_value p
and_then_by None None e = refl
and_then_by None (Some y) e = cc
and_then_by (Some x) None e = cc
and_then_by (Some x) (Some y) e = let same : row_value x ≡ row_value y = cc in same

-- ---- types

own_type : (text : List ℕ) (node : ℕ) (o : Object) (t : DataType) (e : dictionary.Entry) → entry_of_type text node o t ≡ Ok e → (e.index ≡ o.index) × (e.sub ≡ o.sub) × (e.description.data_type ≡ t)
unfolding entry_of_type
own_type text node o t e h =
    let was = parts_of text node o t e h in
    (sym (ap (λ (x : dictionary.Entry). x.index) was.whole), sym (ap (λ (x : dictionary.Entry). x.sub) was.whole), sym (ap (λ (x : dictionary.Entry). x.description.data_type) was.whole))

-- the entry at an address has the type of the object there
type_there : (text : List ℕ) (node index sub : ℕ) (o : Object) (e : dictionary.Entry) (os : List Object) (es : List dictionary.Entry) → collected (entry_built text node) os ≡ Ok es
    → find (is_at index sub) os ≡ Some o → find (dictionary.is_at index sub) es ≡ Some e → e.description.data_type ≡ type_numbered o.data_type
unfolding collected
type_there text node index sub o e [] es h f g = cc
type_there text node index sub o e (x ∷ xs) es h f g =
    let one = bind_ok (entry_built text node x) (λ y. collected (entry_built text node) xs >>= λ ys. Ok (y ∷ ys)) es h in
    let two = bind_ok (collected (entry_built text node) xs) (λ ys. Ok (one.0 ∷ ys)) es one.2 in
    let whole : one.0 ∷ two.0 ≡ es = ok_same (one.0 ∷ two.0) es two.2 in
    let own = own_type text node x (type_numbered x.data_type) one.0 one.1 in
    by_test one.0 two.0 own.0 own.1 own.2 (is_at index sub x) refl f (ap (find (dictionary.is_at index sub)) whole ∙ g) (type_there text node index sub o e xs two.0 two.1)
  where
    by_test : (y : dictionary.Entry) (ys : List dictionary.Entry) → y.index ≡ x.index → y.sub ≡ x.sub → y.description.data_type ≡ type_numbered x.data_type
        → (b : Bool) → is_at index sub x ≡ b → cond b (Some x) (find (is_at index sub) xs) ≡ Some o → find (dictionary.is_at index sub) (y ∷ ys) ≡ Some e
        → (find (is_at index sub) xs ≡ Some o → find (dictionary.is_at index sub) ys ≡ Some e → e.description.data_type ≡ type_numbered o.data_type)
        → e.description.data_type ≡ type_numbered o.data_type
    by_test y ys i s t b is k l later = go b (same ∙ is) k (ap (λ c. cond c (Some y) (find (dictionary.is_at index sub) ys)) (sym (same ∙ is)) ∙ l) later
      where
        same : dictionary.is_at index sub y ≡ is_at index sub x
        same = rw (i, s) refl

        go : (b : Bool) → dictionary.is_at index sub y ≡ b → cond b (Some x) (find (is_at index sub) xs) ≡ Some o → cond b (Some y) (find (dictionary.is_at index sub) ys) ≡ Some e
            → (find (is_at index sub) xs ≡ Some o → find (dictionary.is_at index sub) ys ≡ Some e → e.description.data_type ≡ type_numbered o.data_type)
            → e.description.data_type ≡ type_numbered o.data_type
        go true is k l later =
            let a : x ≡ o = cc in
            let b : y ≡ e = cc in
            ap (λ (z : dictionary.Entry). z.description.data_type) (sym b) ∙ t ∙ ap (λ (z : Object). type_numbered z.data_type) a
        go false is k l later = later k l

-- a number that an object can have is held by its type
no_eight : (w : Width) → (8 == size_of w) ≡ true → ⊥
no_eight One e = cc
no_eight Two e = cc
no_eight Four e = cc

holds : (t : DataType) (s : Setting) → has_numbers t s.width ≡ true → IfSome (bits_of t) (λ bits. s.value < 2 ^ bits) → Holds t (word_of s)
unfolding Holds
holds types.Boolean s e small = (sym (sections_equal 1 (size_of s.width) e), small)
holds types.Integer8 s e small = (sym (sections_equal 1 (size_of s.width) e), small)
holds types.Integer16 s e small = (sym (sections_equal 2 (size_of s.width) e), small)
holds types.Integer32 s e small = (sym (sections_equal 4 (size_of s.width) e), small)
holds types.Unsigned8 s e small = (sym (sections_equal 1 (size_of s.width) e), small)
holds types.Unsigned16 s e small = (sym (sections_equal 2 (size_of s.width) e), small)
holds types.Unsigned32 s e small = (sym (sections_equal 4 (size_of s.width) e), small)
holds types.Integer64 s e small = absurd (no_eight s.width e)
holds types.Unsigned64 s e small = absurd (no_eight s.width e)
holds types.Real32 s e small = cc
holds types.Real64 s e small = cc
holds types.VisibleString s e small = cc
holds types.OctetString s e small = cc
holds types.Domain s e small = cc
holds types.Opaque s e small = cc

-- ---- each object

module _ (text new : List ℕ) (settings : List Setting) (file device node own_node : ℕ) (eds_name name : List ℕ) (rate : Rate) (dict : List dictionary.Entry)
    (edit : IsEdit text new (all_set text settings file device node eds_name name rate)) (described : built text own_node ≡ Ok dict) (numbers : All (IsNumber dict) settings) where
  abbrev changes : List Change
  changes = all_set text settings file device node eds_name name rate

  abbrev key : List ℕ
  key = codes "ParameterValue"

  -- the value of a section of which nothing is set
  not_set : (section : ℕ) → section ≤ section_count (rows_of text) → setting_in text settings section ≡ None → value_in new section key ≡ value_in text section key
  not_set section low none =
      let no : list_any (hits section key) changes ≡ false = find_any _ changes (change_found text settings file device node eds_name name rate section low ∙ ap (option_map (value_set section)) none) in
      value_row new section key
      ∙ ap (λ rows. option_and_then row_value (find (has_key section key) rows)) edit.rows
      ∙ and_then_by _ _ (kept_key section key changes edit.newline (with_both (rows_of text)) edit.clean no)
      ∙ ap (option_and_then row_value) (both_keys section key (rows_of text))
      ∙ sym (value_row text section key)

  is_set : (o : Object) → IsHome text o → (s : Setting) → setting_in text settings o.place.section ≡ Some s → value_in new o.place.section key ≡ Some (hexadecimal (bytes_of s))
  is_set o home s found =
      let section = o.place.section in
      let hit : find (hits section key) changes ≡ Some (value_set section s) =
      change_found text settings file device node eds_name name rate section (home_low text o home) ∙ ap (option_map (value_set section)) found in
      let entry : list_any (is_entry section) (with_both (rows_of text)) ≡ true =
      has_still (is_entry section) (codes "DeviceComissioning") (with_section (codes "FileInfo") (rows_of text)) (has_still (is_entry section) (codes "FileInfo") (rows_of text) (home_entry text o home)) in
      let line = set_key_line section key (value_set section s) (with_both (rows_of text)) changes edit.clean edit.apart hit entry in
      value_row new section key
      ∙ ap (λ rows. option_and_then row_value (find (has_key section key) rows)) edit.rows
      ∙ and_then_by _ _ (closed_find (has_key section key) row_value edit.newline (with_keys changes (with_both (rows_of text))) (λ row ending. refl) (λ row ending. refl))
      ∙ ap (option_and_then row_value) line.1
      ∙ set_value line.0 section s line.2

  set_object : (o : Object) → find (is_at o.index o.sub) (objects_of text) ≡ Some o → IsSetAs text new o.place.section (type_numbered o.data_type) (last_word settings o.index o.sub)
  set_object o own = subst (IsSetAs text new o.place.section (type_numbered o.data_type)) (sym (setting_is text o own settings)) (by_setting (setting_in text settings o.place.section) refl)
    where
      there : IsHome text o
      there = home text o own

      held : (s : Setting) → setting_in text settings o.place.section ≡ Some s → Holds (type_numbered o.data_type) (word_of s)
      held s is =
          let number : IsNumber dict s = last_all (IsNumber dict) (is_of text o.place.section) settings s numbers is in
          let test : at_address o.index o.sub s ≡ true = sym (test_same text o own s) ∙ found_test (is_of text o.place.section) (reverse settings) s is in
          let at : find (is_at s.index s.sub) (objects_of text) ≡ Some o = moved text o own s test in
          let kind : number.entry.description.data_type ≡ type_numbered o.data_type = type_there text own_node s.index s.sub o number.entry (objects_of text) dict described at number.here in
          subst (λ t. Holds t (word_of s)) kind (holds number.entry.description.data_type s number.numbers number.fits)

      by_setting : (x : Option Setting) → setting_in text settings o.place.section ≡ x → IsSetAs text new o.place.section (type_numbered o.data_type) (option_map word_of x)
      by_setting None is = not_set o.place.section (home_low text o there) is
      by_setting (Some s) is = (is_set o there s is, held s is)

  objects_set : (os : List Object) → All (λ o. find (is_at o.index o.sub) (objects_of text) ≡ Some o) os → AreSet (last_word settings) text new os
  unfolding AreSet
  objects_set [] all = tt
  objects_set (o ∷ os) all =
      let P : Object → Type 0 = λ o. find (is_at o.index o.sub) (objects_of text) ≡ Some o in
      (set_object o (All-head P o os all), objects_set os (All-tail P o os all))

  self_at : (o : Object) → is_at o.index o.sub o ≡ true
  self_at o = grind (arith, nat_tests)

  -- all objects are set as the settings say
  pub are_set : AreSet (last_word settings) text new (objects_of text)
  are_set =
      objects_set (objects_of text)
      (λ k d lt. object_here (objects_of text) (get_or (objects_of text) k d).index (get_or (objects_of text) k d).sub k d (objects_sorted text) lt (self_at (get_or (objects_of text) k d)))
