-- The settings that are asked of a device are taken, each in its turn.
use Rattle.std.proofs.Common.{◌≡◌, ◌≢◌, ◌<◌, ◌≤◌, ℕ, suc, ◌+◌, ◌-◌, ◌*◌, ◌^◌, Bool, true, false, cond, ◌&&◌, ◌==◌, nat_le, List, [], ◌∷◌, ◌++◌, length, get_or, Option, Some, None, Result, Ok, Err, IfSome, IsSome, All, AllPairs, refl, sym, ap, subst, ◌∙◌, arith, append-nil}
use Rattle.std.specs.List.{cons_option}
use Rattle.std.specs.Result.{is_ok}
use Rattle.std.proofs.lemmas.Bool.Decides.{nat_tests}
use Rattle.std.proofs.lemmas.Bool.{eqb-true}
use Rattle.std.proofs.lemmas.List.Elements.{All-nil, All-push, All-head, All-tail}
use Rattle.cop_eds.specs.declared.amount.Amount.{Amount}
use Rattle.cop_eds.specs.declared.amount.Amount.TheVariants.{Decimal, Negative, Hexadecimal, PlusNode}
use Rattle.cop_dict.specs.declared.abort.Abort.{Abort}
use Rattle.cop_dict.specs.declared.abort.Abort.TheVariants.{WriteOnly}
use Rattle.cop_dict.specs.declared.data_type.DataType.{DataType}
use Rattle.cop_dict.specs.declared.data_type.DataType.TheVariants as types
use Rattle.cop_dict.specs.Types.{width_of, bits_of, half_of, is_readable}
use Rattle.cop_dict.specs.Patterns.{at_most, negative, pattern_of}
use Rattle.cop_dict.specs.Find.{Entry, entry_at}
use Rattle.cop_dict.specs.Pdo.{is_mapping}
use Rattle.cop_dict.specs.Dict.{written}
use Rattle.cop_dict.proofs.DictLemmas.{found_inside}
use Rattle.cop_setup.specs.declared.setting.Setting.{Setting}
use Rattle.cop_setup.specs.declared.setting.Width.{Width}
use Rattle.cop_setup.specs.declared.setting.Width.TheVariants.{One, Two, Four}
use Rattle.cop_setup.specs.declared.asking.AskFault.{AskFault}
use Rattle.cop_setup.specs.declared.asking.AskFault.TheVariants.{Aborted}
use Rattle.cop_setup.specs.Width.{size_of}
use Rattle.cop_setup.specs.Settings.{bytes_of, with_setting, planned, has_numbers, IsFit, IsNumber}
use Rattle.cop_setup.specs.InTurn.{IsElsewhere, AreApart, TakesAlone, TakesEach}
use Rattle.cop_setup.specs.Asking.{number_width, pattern_in, with_pattern, with_width, is_so, by_write, by_setting, by_entry, asked_of}
use Rattle.cop_setup.proofs.InTurn.{kept_by_all, planned_append, accepted_alone}
use Rattle.cop_setup.proofs.TryLemmas.{accepted_so}
use Rattle.cop_rows.specs.declared.setting_rows.SettingRow.{SettingRow}
use Rattle.cop_rows.specs.SettingRows.{object_of, is_settable, IsSettingRow, AreSettingRows}
use Rattle.cop_rows.proofs.RangeLemmas.{bind_ok}
use Rattle.cop_net.specs.Steps.{folded}
use Rattle.cop_net.specs.Asking.{Asked, in_row, with_row, settings_asked, AreTaken}

-- ---- numbers of a type

at_most_le : (greatest n v : ℕ) → at_most greatest n ≡ Some v → v ≤ greatest
at_most_le greatest n v h = by_test (nat_le n greatest) refl h
  where
    by_test : (b : Bool) → nat_le n greatest ≡ b → cond b (Some n) None ≡ Some v → v ≤ greatest
    by_test true e h = let same : n ≡ v = cc in let le : n ≤ greatest = grind (arith, nat_tests) in omega (arith, same, le)
    by_test false e h = cc

plain_le : (greatest node v : ℕ) (amount : Amount) (t : DataType) → half_of t ≡ None → pattern_of t greatest node amount ≡ Some v → v ≤ greatest
plain_le greatest node v (Decimal n) t none h = at_most_le greatest n v h
plain_le greatest node v (Negative n) t none h = let le = at_most_le 0 n v (rw none at h) in omega (arith, le)
plain_le greatest node v (Hexadecimal n) t none h = at_most_le greatest n v (rw none at h)
plain_le greatest node v (PlusNode n) t none h = at_most_le greatest (n + node) v h

negative_lt : (half n v : ℕ) → 1 ≤ half → negative (Some half) n ≡ Some v → v < 2 * half
negative_lt half n v some h = by_zero (n == 0) refl h
  where
    by_low : (b : Bool) → nat_le n half ≡ b → (n == 0) ≡ false → cond b (Some (2 * half - n)) None ≡ Some v → v < 2 * half
    by_low true e more h = let same : 2 * half - n ≡ v = cc in let least : 1 ≤ n = grind (arith, nat_tests) in omega (arith, same, least, some)
    by_low false e more h = cc

    by_zero : (b : Bool) → (n == 0) ≡ b → cond b (Some 0) (cond (nat_le n half) (Some (2 * half - n)) None) ≡ Some v → v < 2 * half
    by_zero true e h = let same : 0 ≡ v = cc in omega (arith, same, some)
    by_zero false e h = by_low (nat_le n half) refl e h

signed_lt : (half greatest node v : ℕ) (amount : Amount) (t : DataType) → half_of t ≡ Some half → 1 ≤ half → greatest < half → pattern_of t greatest node amount ≡ Some v → v < 2 * half
signed_lt half greatest node v (Decimal n) t is some low h = let le = at_most_le greatest n v h in omega (arith, le, low)
signed_lt half greatest node v (Negative n) t is some low h = negative_lt half n v some (rw is at h)
signed_lt half greatest node v (Hexadecimal n) t is some low h = let le = at_most_le (2 * half - 1) n v (rw is at h) in omega (arith, le, some)
signed_lt half greatest node v (PlusNode n) t is some low h = let le = at_most_le greatest (n + node) v h in omega (arith, le, low)

-- what an amount asks in a type fits the type and its width
pub record Fitting (t : DataType) (w : Width) (v : ℕ) : Type 0 where
  pub bytes : v < 2 ^ (8 * size_of w)
  pub bits : IfSome (bits_of t) (λ bits. v < 2 ^ bits)
  pub numbers : has_numbers t w ≡ true
  pub wide : IsSome (width_of t)

fitting : (t : DataType) (w : Width) (node v : ℕ) (amount : Amount) → number_width t ≡ Some w → pattern_in node amount t ≡ Some v → Fitting t w v
fitting types.Boolean w node v amount e h =
    let same : One ≡ w = cc in
    let le = plain_le 1 node v amount types.Boolean refl h in
    subst (λ w. Fitting types.Boolean w v) same (record { bytes = omega (arith, le); bits = omega (arith, le); numbers = refl; wide = refl })
fitting types.Unsigned8 w node v amount e h =
    let same : One ≡ w = cc in
    let le = plain_le (2 ^ 8 - 1) node v amount types.Unsigned8 refl h in
    subst (λ w. Fitting types.Unsigned8 w v) same (record { bytes = omega (arith, le); bits = omega (arith, le); numbers = refl; wide = refl })
fitting types.Unsigned16 w node v amount e h =
    let same : Two ≡ w = cc in
    let le = plain_le (2 ^ 16 - 1) node v amount types.Unsigned16 refl h in
    subst (λ w. Fitting types.Unsigned16 w v) same (record { bytes = omega (arith, le); bits = omega (arith, le); numbers = refl; wide = refl })
fitting types.Unsigned32 w node v amount e h =
    let same : Four ≡ w = cc in
    let le = plain_le (2 ^ 32 - 1) node v amount types.Unsigned32 refl h in
    subst (λ w. Fitting types.Unsigned32 w v) same (record { bytes = omega (arith, le); bits = omega (arith, le); numbers = refl; wide = refl })
fitting types.Integer8 w node v amount e h =
    let same : One ≡ w = cc in
    let lt = signed_lt (2 ^ 7) (2 ^ 7 - 1) node v amount types.Integer8 refl (omega arith) (omega arith) h in
    subst (λ w. Fitting types.Integer8 w v) same (record { bytes = omega (arith, lt); bits = omega (arith, lt); numbers = refl; wide = refl })
fitting types.Integer16 w node v amount e h =
    let same : Two ≡ w = cc in
    let lt = signed_lt (2 ^ 15) (2 ^ 15 - 1) node v amount types.Integer16 refl (omega arith) (omega arith) h in
    subst (λ w. Fitting types.Integer16 w v) same (record { bytes = omega (arith, lt); bits = omega (arith, lt); numbers = refl; wide = refl })
fitting types.Integer32 w node v amount e h =
    let same : Four ≡ w = cc in
    let lt = signed_lt (2 ^ 31) (2 ^ 31 - 1) node v amount types.Integer32 refl (omega arith) (omega arith) h in
    subst (λ w. Fitting types.Integer32 w v) same (record { bytes = omega (arith, lt); bits = omega (arith, lt); numbers = refl; wide = refl })
fitting _ w node v amount e h = cc

-- ---- what asking gives

record IsSet (dict new : List Entry) (node index sub : ℕ) (amount : Amount) (s : Setting) : Type 0 where
  at_index : s.index ≡ index
  at_sub : s.sub ≡ sub
  entry : Entry
  there : entry_at dict index sub ≡ Some entry
  width : number_width entry.description.data_type ≡ Some s.width
  value : pattern_in node amount entry.description.data_type ≡ Some s.value
  taken : written dict s.index s.sub (bytes_of s) ≡ Ok new

-- an outcome of asking
Outcome : (dict new : List Entry) (node index sub : ℕ) (amount : Amount) → Option Setting → Type 0
Outcome dict new node index sub amount None = new ≡ dict
Outcome dict new node index sub amount (Some s) = IsSet dict new node index sub amount s

module _ (dict new : List Entry) (node index sub : ℕ) (amount : Amount) (o : Option Setting) where
  by_taken : (e : Entry) (s : Setting) → entry_at dict index sub ≡ Some e → s.index ≡ index → s.sub ≡ sub → number_width e.description.data_type ≡ Some s.width
      → pattern_in node amount e.description.data_type ≡ Some s.value → (r : Result (List Entry) Abort) → written dict s.index s.sub (bytes_of s) ≡ r → by_write s r ≡ Ok (o, new)
      → Outcome dict new node index sub amount o
  unfolding Outcome
  by_taken e s there i j width value (Err a) is h = cc
  by_taken e s there i j width value (Ok d) is h =
      let both : ◌≡◌ {A = Option Setting × List Entry} (Some s, d) (o, new) = cc in
      subst (Outcome dict new node index sub amount) (ap (λ p. p.0) both)
      (record { at_index = i; at_sub = j; entry = e; there = there; width = width; value = value; taken = is ∙ ap Ok (ap (λ p. p.1) both) })

  by_read : (e : Entry) (s : Setting) → entry_at dict index sub ≡ Some e → s.index ≡ index → s.sub ≡ sub → number_width e.description.data_type ≡ Some s.width
      → pattern_in node amount e.description.data_type ≡ Some s.value
      → (b : Bool) → cond b (by_write s (written dict s.index s.sub (bytes_of s))) (Err (Aborted WriteOnly)) ≡ Ok (o, new) → Outcome dict new node index sub amount o
  by_read e s there i j width value true h = by_taken e s there i j width value (written dict s.index s.sub (bytes_of s)) refl h
  by_read e s there i j width value false h = cc

  by_so : (e : Entry) (s : Setting) → entry_at dict index sub ≡ Some e → s.index ≡ index → s.sub ≡ sub → number_width e.description.data_type ≡ Some s.width
      → pattern_in node amount e.description.data_type ≡ Some s.value
      → (b : Bool) → cond b (Ok (None, dict)) (cond (is_readable e.description.access) (by_write s (written dict s.index s.sub (bytes_of s))) (Err (Aborted WriteOnly))) ≡ Ok (o, new)
      → Outcome dict new node index sub amount o
  unfolding Outcome
  by_so e s there i j width value true h =
      let both : ◌≡◌ {A = Option Setting × List Entry} (None, dict) (o, new) = cc in
      subst (Outcome dict new node index sub amount) (ap (λ p. p.0) both) (sym (ap (λ p. p.1) both))
  by_so e s there i j width value false h = by_read e s there i j width value (is_readable e.description.access) h

  by_pattern : (e : Entry) (w : Width) → entry_at dict index sub ≡ Some e → number_width e.description.data_type ≡ Some w → (p : Option ℕ) → pattern_in node amount e.description.data_type ≡ p
      → by_setting dict e (with_pattern index sub w p) ≡ Ok (o, new) → Outcome dict new node index sub amount o
  by_pattern e w there width None is h = cc
  by_pattern e w there width (Some p) is h =
      let s : Setting = record { index = index; sub = sub; value = p; width = w } in by_so e s there refl refl width is (is_so e s) h

  by_width : (e : Entry) → entry_at dict index sub ≡ Some e → (w : Option Width) → number_width e.description.data_type ≡ w
      → by_setting dict e (with_width index sub (pattern_in node amount e.description.data_type) w) ≡ Ok (o, new) → Outcome dict new node index sub amount o
  by_width e there None is h = cc
  by_width e there (Some w) is h = by_pattern e w there is (pattern_in node amount e.description.data_type) refl h

  asked_so : asked_of dict node index sub amount ≡ Ok (o, new) → Outcome dict new node index sub amount o
  asked_so h = by_entry_at (entry_at dict index sub) refl h
    where
      by_entry_at : (f : Option Entry) → entry_at dict index sub ≡ f → by_entry dict node index sub amount f ≡ Ok (o, new) → Outcome dict new node index sub amount o
      by_entry_at None is h = cc
      by_entry_at (Some e) is h = by_width e is (number_width e.description.data_type) refl h

-- ---- one setting more

Matches : Setting → ℕ → ℕ → Type 0
Matches s index sub = (s.index == index) && (s.sub == sub) ≡ false

elsewhere_push : (xs : List Setting) (s : Setting) (index sub : ℕ) → IsElsewhere index sub xs → (s.index == index) && (s.sub == sub) ≡ false → IsElsewhere index sub (xs ++ s ∷ [])
elsewhere_push [] s index sub h new = (new, tt)
elsewhere_push (x ∷ xs) s index sub h new = (h.0, elsewhere_push xs s index sub h.1 new)

turned : (a b c d : ℕ) → (c == a) && (d == b) ≡ false → (a == c) && (b == d) ≡ false
turned a b c d h = grind (arith, nat_tests)

apart_push : (xs : List Setting) (s : Setting) → AreApart xs → IsElsewhere s.index s.sub xs → AreApart (xs ++ s ∷ [])
apart_push [] s h free = (tt, tt)
apart_push (x ∷ xs) s h free = (elsewhere_push xs s x.index x.sub h.0 (turned s.index s.sub x.index x.sub free.0), apart_push xs s h.1 free.1)

taken_push : (dict : List Entry) (xs : List Setting) (s : Setting) → TakesEach dict xs → TakesAlone dict s → TakesEach dict (xs ++ s ∷ [])
taken_push dict [] s h new = (new, tt)
taken_push dict (x ∷ xs) s h new = (h.0, taken_push dict xs s h.1 new)

settable_free : (index : ℕ) → is_settable index ≡ true → is_mapping index ≡ false
settable_free index h = grind (arith, nat_tests)

record State (dict : List Entry) (now : Asked) : Type 0 where
  written : now.dictionary ≡ planned dict now.settings
  are : AreTaken dict now.settings

Later : List Setting → List SettingRow → Type 0
Later settings rows = All (λ r. IsElsewhere r.index r.sub settings) rows

one_more : (dict new : List Entry) (node : ℕ) (now : Asked) (row : SettingRow) (s : Setting) → State dict now → IsSettingRow row → IsElsewhere row.index row.sub now.settings
    → IsSet now.dictionary new node row.index row.sub row.amount s → State dict (record { dictionary = new; settings = now.settings ++ s ∷ [] })
one_more dict new node now row s state ok free set =
    let there : entry_at dict row.index row.sub ≡ Some set.entry =
    sym (kept_by_all now.settings dict row.index row.sub free) ∙ ap (λ (d : List Entry). entry_at d row.index row.sub) (sym state.written) ∙ set.there in
    let at : entry_at dict s.index s.sub ≡ Some set.entry = ap (λ i. entry_at dict i s.sub) set.at_index ∙ ap (entry_at dict row.index) set.at_sub ∙ there in
    let now_at : entry_at now.dictionary s.index s.sub ≡ Some set.entry = ap (λ i. entry_at now.dictionary i s.sub) set.at_index ∙ ap (entry_at now.dictionary row.index) set.at_sub ∙ set.there in
    let fit = fitting set.entry.description.data_type s.width node s.value row.amount set.width set.value in
    let own : is_settable s.index ≡ true = ap is_settable set.at_index ∙ ok in
    let unmapped : is_mapping set.entry.index ≡ false = ap is_mapping (found_inside dict s.index s.sub set.entry at).1 ∙ settable_free s.index own in
    let alone : IsElsewhere s.index s.sub now.settings = subst (λ i. IsElsewhere i s.sub now.settings) (sym set.at_index) (subst (λ j. IsElsewhere row.index j now.settings) (sym set.at_sub) free) in
    let takes : TakesAlone dict s =
    record { entry = set.entry; at = at; free = unmapped; width = fit.wide; accepts = accepted_alone now.dictionary s.index s.sub (bytes_of s) set.entry now_at unmapped (ap is_ok set.taken) } in
    let number : IsNumber dict s = record { entry = set.entry; here = at; numbers = fit.numbers; fits = fit.bits } in
    record {
      written = (accepted_so now.dictionary new s set.taken).0 ∙ ap (λ d. with_setting d s) state.written ∙ sym (planned_append now.settings (s ∷ []) dict);
      are = record {
        fits = All-push IsFit now.settings s state.are.fits (record { value = fit.bytes });
        numbers = All-push (IsNumber dict) now.settings s state.are.numbers number;
        settable = All-push (λ s. is_settable s.index ≡ true) now.settings s state.are.settable own;
        taken = taken_push dict now.settings s state.are.taken takes;
        apart = apart_push now.settings s state.are.apart alone;
      };
    }

Distinct : List SettingRow → Type 0
Distinct rows = AllPairs (λ r s. object_of r ≢ object_of s) rows

other_object : (i j k l : ℕ) → i * 256 + j ≢ k * 256 + l → (i == k) && (j == l) ≡ false
other_object i j k l h = by_tests (i == k) refl (j == l) refl
  where
    by_tests : (b : Bool) → (i == k) ≡ b → (c : Bool) → (j == l) ≡ c → (b && c) ≡ false
    by_tests false e c f = refl
    by_tests true e false f = refl
    by_tests true e true f = let a = eqb-true i k e in let b = eqb-true j l f in absurd (h (omega (arith, a, b)))

later_more : (row : SettingRow) (s : Setting) (settings : List Setting) (rows : List SettingRow) → s.index ≡ row.index → s.sub ≡ row.sub → ((k : ℕ) (d : SettingRow) → k < length rows → object_of row ≢ object_of (get_or rows k d))
    → Later settings rows → Later (settings ++ s ∷ []) rows
unfolding Later
later_more row s settings rows i j apart h = λ k d lt.
    let r = get_or rows k d in
    let other : (s.index == r.index) && (s.sub == r.sub) ≡ false = rw (i, j) (other_object row.index row.sub r.index r.sub (apart k d lt)) in
    elsewhere_push settings s r.index r.sub (h k d lt) other

all_asked : (dict : List Entry) (node : ℕ) (rows : List SettingRow) (now last : Asked) → State dict now → Later now.settings rows → All IsSettingRow rows → Distinct rows
    → folded (with_row node) now rows ≡ Ok last → State dict last
unfolding folded Later Distinct Outcome
all_asked dict node [] now last state later ok apart h = let same : now ≡ last = cc in subst (State dict) same state
all_asked dict node (row ∷ rows) now last state later ok apart h =
    let p = bind_ok (with_row node now row) (λ next. folded (with_row node) next rows) last h in
    let q = bind_ok (in_row row (asked_of now.dictionary node row.index row.sub row.amount)) (λ found. Ok (record { dictionary = found.1; settings = now.settings ++ cons_option found.0 [] })) p.0 p.1 in
    let same : record { dictionary = q.0.1; settings = now.settings ++ cons_option q.0.0 [] } ≡ p.0 = cc in
    by_found (λ n st later_n f. all_asked dict node rows n last st later_n (All-tail IsSettingRow row rows ok) (λ i j d lt inside. apart (suc i) (suc j) d (omega arith) (omega arith)) f)
    q.0.0 q.0.1 (asked_so now.dictionary q.0.1 node row.index row.sub row.amount q.0.0 (plain (asked_of now.dictionary node row.index row.sub row.amount) q.0 q.1)) same p.2
  where
    plain : (r : Result (Option Setting × List Entry) AskFault) (found : Option Setting × List Entry) → in_row row r ≡ Ok found → r ≡ Ok (found.0, found.1)
    plain (Ok x) found h = let e : x ≡ found = cc in ap Ok e
    plain (Err f) found h = cc

    rest : Later now.settings rows
    rest = All-tail (λ r. IsElsewhere r.index r.sub now.settings) row rows later

    by_found : ((n : Asked) → State dict n → Later n.settings rows → folded (with_row node) n rows ≡ Ok last → State dict last) → (o : Option Setting) (new : List Entry) → Outcome now.dictionary new node row.index row.sub row.amount o → {next : Asked}
        → record { dictionary = new; settings = now.settings ++ cons_option o [] } ≡ next → folded (with_row node) next rows ≡ Ok last → State dict last
    by_found go None new same {next} e h =
        let now_is : now ≡ next = (ap (λ (xs : List Setting). record { dictionary = now.dictionary; settings = xs }) (sym (append-nil now.settings)) ∙ ap (λ (d : List Entry). record { dictionary = d; settings = now.settings ++ [] }) (sym same)) ∙ e in
        go now state rest (ap (λ (n : Asked). folded (with_row node) n rows) now_is ∙ h)
    by_found go (Some s) new set {next} e h =
        let more = one_more dict new node now row s state (All-head IsSettingRow row rows ok) (All-head (λ r. IsElsewhere r.index r.sub now.settings) row rows later) set in
        go (record { dictionary = new; settings = now.settings ++ s ∷ [] }) more
        (later_more row s now.settings rows set.at_index set.at_sub (λ k d lt. apart 0 (suc k) d (omega arith) (omega arith)) rest)
        (ap (λ (n : Asked). folded (with_row node) n rows) e ∙ h)

none_taken : (dict : List Entry) → AreTaken dict []
none_taken dict = record { fits = All-nil IsFit; numbers = All-nil (IsNumber dict); settable = All-nil (λ s. is_settable s.index ≡ true); taken = tt; apart = tt }

-- what is asked of a device, where its rows are of objects that may be set, each of another, is taken
pub asked_taken : (node : ℕ) (dict : List Entry) (rows : List SettingRow) (settings : List Setting) → AreSettingRows rows → settings_asked node dict rows ≡ Ok settings → AreTaken dict settings
unfolding Later Distinct
asked_taken node dict rows settings are h =
    let start : Asked = record { dictionary = dict; settings = [] } in
    let p = bind_ok (folded (with_row node) start rows) (λ asked. Ok asked.settings) settings h in
    let same : p.0.settings ≡ settings = cc in
    subst (AreTaken dict) same (all_asked dict node rows start p.0 (record { written = refl; are = none_taken dict }) (λ k d lt. tt) are.settable are.apart p.1).are
