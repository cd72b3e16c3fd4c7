-- A text whose keys are set has each other key as it was.
use Rattle.std.proofs.Common.{◌≡◌, ℕ, Bool, true, false, not, cond, ◌&&◌, ◌||◌, ◌==◌, List, [], ◌∷◌, ◌++◌, map, find, filter, Option, Some, None, refl, sym, ap, ◌∙◌, subst, arith}
use Rattle.std.specs.List.{list_any}
use Rattle.std.specs.Option.{option_map_or, option_or}
use Rattle.std.specs.Str.{str_to_ascii_lowercase, bytes_eq}
use Rattle.std.proofs.lemmas.Bool.Decides.{nat_tests}
use Rattle.std.proofs.lemmas.Slice.Eq.{bytes_eq-Decides}
use Rattle.std.proofs.lemmas.List.Folds.{find-append, list_any-append}
use Rattle.cop_eds.specs.declared.line.Kind.{Kind}
use Rattle.cop_eds.specs.declared.line.Kind.TheVariants.{Other, Header, Pair}
use Rattle.cop_eds.specs.Text.{key_of, same_name}
use Rattle.cop_eds.specs.Lines.{is_kind}
use Rattle.cop_eds.specs.Rows.{Row, has_key}
use Rattle.cop_eds.specs.Edits.{Change, pair_of, change_of, changed, is_entry, is_last, is_new, new_row, new_rows, rewritten, with_keys, newline_of}

-- the change sets this key of this section
abbrev pub hits : ℕ → List ℕ → Change → Bool
hits section key change = (change.section == section) && same_name change.key key

-- the line that a change writes is read as its key, in a section that there is
pub record IsClean (change : Change) : Type 0 where
  pub key : key_of (pair_of change) ≡ change.key
  pub inside : (change.section == 0) ≡ false

unfoldable pub AreClean : List Change → Type 0
AreClean [] = Unit {0}
AreClean (c ∷ cs) = IsClean c × AreClean cs

pub found_clean : (p : Change → Bool) (cs : List Change) (c : Change) → AreClean cs → find p cs ≡ Some c → IsClean c × (p c ≡ true)
unfolding AreClean
found_clean p [] c clean e = cc
found_clean p (x ∷ xs) c clean e = by_test (p x) refl e (found_clean p xs c clean.1)
  where
    by_test : (b : Bool) → p x ≡ b → cond b (Some x) (find p xs) ≡ Some c → (find p xs ≡ Some c → IsClean c × (p c ≡ true)) → IsClean c × (p c ≡ true)
    by_test true is h later =
        let same : x ≡ c = cc in
        (subst IsClean same clean.0, ap p (sym same) ∙ is)
    by_test false is h later = later h

-- a text that is found passes the test
pub any_found : {A : Type 0} (p q : A → Bool) (xs : List A) (x : A) → find p xs ≡ Some x → q x ≡ true → list_any q xs ≡ true
any_found p q [] x e h = cc
any_found p q (y ∷ ys) x e h = by_test (p y) e (λ k. any_found p q ys x k h)
  where
    by_test : (b : Bool) → cond b (Some y) (find p ys) ≡ Some x → (find p ys ≡ Some x → list_any q ys ≡ true) → (q y || list_any q ys) ≡ true
    by_test true e later =
        let same : y ≡ x = cc in
        let here : q y ≡ true = ap q same ∙ h in
        rw here refl
    by_test false e later = by_own (q y) (later e)
      where
        by_own : (b : Bool) → list_any q ys ≡ true → (b || list_any q ys) ≡ true
        by_own true k = refl
        by_own false k = k

-- names that are the same are the same as each other name
names_equal : (a b : List ℕ) → same_name a b ≡ true → str_to_ascii_lowercase a ≡ str_to_ascii_lowercase b
names_equal a b e = (bytes_eq-Decides (str_to_ascii_lowercase a) (str_to_ascii_lowercase b)).0 e

pub same_left : (a b c : List ℕ) → same_name a b ≡ true → same_name a c ≡ same_name b c
same_left a b c e = ap (λ x. bytes_eq x (str_to_ascii_lowercase c)) (names_equal a b e)

pub same_right : (a b c : List ℕ) → same_name a b ≡ true → same_name c a ≡ same_name c b
same_right a b c e = ap (λ x. bytes_eq (str_to_ascii_lowercase c) x) (names_equal a b e)

pub and_left : (a b : Bool) → a && b ≡ true → a ≡ true
and_left true b e = refl
and_left false b e = cc

pub and_right : (a b : Bool) → a && b ≡ true → b ≡ true
and_right true b e = e
and_right false b e = cc

pub false_by : (b : Bool) → (b ≡ true → ⊥) → b ≡ false
false_by true h = absurd (h refl)
false_by false h = refl

pub sections_equal : (m n : ℕ) → (m == n) ≡ true → m ≡ n
sections_equal m n e = grind (arith, nat_tests)

-- a row of a key that is set is a row of each key that this change sets, and of no other
pub changed_hits : (section : ℕ) (key : List ℕ) (change : Change) (row : Row) → has_key change.section change.key row ≡ true → has_key section key row ≡ hits section key change
changed_hits section key change row e =
    let first : is_kind row.kind Pair && (row.section == change.section) ≡ true = and_left _ _ e in
    let pair : is_kind row.kind Pair ≡ true = and_left _ _ first in
    let there : (row.section == change.section) ≡ true = and_right (is_kind row.kind Pair) _ first in
    let place : row.section ≡ change.section = sections_equal row.section change.section there in
    let name : same_name (key_of row.body) key ≡ same_name change.key key = same_left (key_of row.body) change.key key (and_right (is_kind row.kind Pair && (row.section == change.section)) _ e) in
    rw (pair, place, name) refl

-- the row that is written is one of the keys that the change sets
pub written_hits : (section : ℕ) (key : List ℕ) (change : Change) (row : Row) → IsClean change → has_key change.section change.key row ≡ true
    → has_key section key (record row { body = pair_of change }) ≡ hits section key change
written_hits section key change row clean e =
    let first : is_kind row.kind Pair && (row.section == change.section) ≡ true = and_left _ _ e in
    let pair : is_kind row.kind Pair ≡ true = and_left _ _ first in
    let there : (row.section == change.section) ≡ true = and_right (is_kind row.kind Pair) _ first in
    let place : row.section ≡ change.section = sections_equal row.section change.section there in
    let own : same_name (key_of (pair_of change)) key ≡ same_name change.key key = ap (λ k. same_name k key) clean.key in
    rw (pair, place, own) refl

-- what happens to a row: nothing, or a change that is of its key
pub changed_by : (P : Row → Type 0) (cs : List Change) (row : Row) → AreClean cs → (change_of cs row ≡ None → P row)
    → ((c : Change) → change_of cs row ≡ Some c → IsClean c → has_key c.section c.key row ≡ true → P (record row { body = pair_of c })) → P (changed cs row)
changed_by P cs row clean same other = by_change (change_of cs row) refl
  where
    by_change : (o : Option Change) → change_of cs row ≡ o → P (option_map_or (λ change. record row { body = pair_of change }) o row)
    by_change None e = same e
    by_change (Some c) e = let found = found_clean (λ change. has_key change.section change.key row) cs c clean e in other c e found.0 found.1

pub new_hits : (newline : List ℕ) (section : ℕ) (key : List ℕ) (change : Change) → IsClean change → has_key section key (new_row newline change) ≡ hits section key change
new_hits newline section key change clean = ap (λ k. (change.section == section) && same_name k key) clean.key

or_left : (a b : Bool) → a || b ≡ false → a ≡ false
or_left true b e = cc
or_left false b e = refl

or_right : (a b : Bool) → a || b ≡ false → b ≡ false
or_right true b e = cc
or_right false b e = e

-- among new rows there is none of a key that no change sets
none_new : (newline : List ℕ) (p : Change → Bool) (section : ℕ) (key : List ℕ) (cs : List Change) → AreClean cs → list_any (hits section key) cs ≡ false
    → find (has_key section key) (map (new_row newline) (filter p cs)) ≡ None
unfolding AreClean
none_new newline p section key [] clean none = refl
none_new newline p section key (c ∷ cs) clean none =
    let here : has_key section key (new_row newline c) ≡ false = new_hits newline section key c clean.0 ∙ or_left _ _ none in
    let later = none_new newline p section key cs clean.1 (or_right (hits section key c) _ none) in
    by_test (p c) here later
  where
    by_test : (b : Bool) → has_key section key (new_row newline c) ≡ false → find (has_key section key) (map (new_row newline) (filter p cs)) ≡ None
        → find (has_key section key) (map (new_row newline) (cond b (c ∷ filter p cs) (filter p cs))) ≡ None
    by_test true here later = rw here later
    by_test false here later = later

not_hit : {A : Type 0} (p q : A → Bool) (xs : List A) (x : A) → find p xs ≡ Some x → list_any q xs ≡ false → q x ≡ false
not_hit p q xs x e none = false_by (q x) (λ h. let yes : list_any q xs ≡ true = any_found p q xs x e h in let no : true ≡ false = sym yes ∙ none in cc)

pub kind_is_pair : (kind : Kind) → is_kind kind Pair ≡ true → kind ≡ Pair
kind_is_pair Other e = cc
kind_is_pair Header e = cc
kind_is_pair Pair e = refl

pub has_pair : (section : ℕ) (key : List ℕ) (row : Row) → has_key section key row ≡ true → row.kind ≡ Pair
has_pair section key row e = kind_is_pair row.kind (and_left _ _ (and_left (is_kind row.kind Pair && (row.section == section)) _ e))

-- what is put behind a row
abbrev pub behind : List Row → List Change → List ℕ → Row → List Row → List Row
behind rows cs newline row later = cond (is_last row later) (new_rows rows cs newline row.section) []

-- where new rows are none of those that are sought, and a changed row is one where it was and then is the same
find_same : (q : Row → Bool) (rows : List Row) (cs : List Change) (newline : List ℕ) (later : List Row)
    → ((row : Row) (found : Option Row) → cond (q (changed cs row)) (Some (changed cs row)) found ≡ cond (q row) (Some row) found)
    → ((section : ℕ) → find q (new_rows rows cs newline section) ≡ None) → find q (rewritten rows cs newline later) ≡ find q later
find_same q rows cs newline [] own none = refl
find_same q rows cs newline (row ∷ later) own none =
    ap (λ found. cond (q (changed cs row)) (Some (changed cs row)) found) (find-append q (behind rows cs newline row later) (rewritten rows cs newline later) ∙ ap (λ o. option_or o (find q (rewritten rows cs newline later))) (skipped (is_last row later)) ∙ find_same q rows cs newline later own none)
    ∙ own row (find q later)
  where
    skipped : (b : Bool) → find q (cond b (new_rows rows cs newline row.section) []) ≡ None
    skipped true = none row.section
    skipped false = refl

-- no new row is found by a test that no pair passes
no_pair_new : (q : Row → Bool) (newline : List ℕ) (cs : List Change) → ((row : Row) → row.kind ≡ Pair → q row ≡ false) → find q (map (new_row newline) cs) ≡ None
no_pair_new q newline [] none = refl
no_pair_new q newline (c ∷ cs) none = let here : q (new_row newline c) ≡ false = none (new_row newline c) refl in rw here (no_pair_new q newline cs none)

-- headers are where they were
pub header_same : (q : Row → Bool) (rows : List Row) (cs : List Change) (newline : List ℕ) (later : List Row) → AreClean cs → ((row : Row) → row.kind ≡ Pair → q row ≡ false)
    → find q (rewritten rows cs newline later) ≡ find q later
header_same q rows cs newline later clean none =
    find_same q rows cs newline later
    (λ row found. changed_by (λ r. cond (q r) (Some r) found ≡ cond (q row) (Some row) found) cs row clean (λ e. refl)
    (λ c e own at.
    let was : q row ≡ false = none row (has_pair c.section c.key row at) in
    let now : q (record row { body = pair_of c }) ≡ false = none (record row { body = pair_of c }) (has_pair c.section c.key row at) in
    rw (was, now) refl))
    (λ section. no_pair_new q newline (filter (is_new rows section) cs) none)

-- a key that no change sets has the row that it had
pub other_key_same : (section : ℕ) (key : List ℕ) (rows : List Row) (cs : List Change) (newline : List ℕ) (later : List Row) → AreClean cs
    → list_any (hits section key) cs ≡ false → find (has_key section key) (rewritten rows cs newline later) ≡ find (has_key section key) later
other_key_same section key rows cs newline later clean none =
    find_same (has_key section key) rows cs newline later
    (λ row found. changed_by (λ r. cond (has_key section key r) (Some r) found ≡ cond (has_key section key row) (Some row) found) cs row clean (λ e. refl)
    (λ c e own at.
    let no : hits section key c ≡ false = not_hit (λ change. has_key change.section change.key row) (hits section key) cs c e none in
    let was : has_key section key row ≡ false = changed_hits section key c row at ∙ no in
    let now : has_key section key (record row { body = pair_of c }) ≡ false = written_hits section key c row own at ∙ no in
    rw (was, now) refl))
    (λ sought. none_new newline (is_new rows sought) section key cs clean none)

-- of these changes this one alone sets the key
unfoldable Only : ℕ → List ℕ → Change → List Change → Type 0
Only section key c [] = Unit {0}
Only section key c (x ∷ xs) = (hits section key x ≡ true → x ≡ c) × Only section key c xs

none_only : (section : ℕ) (key : List ℕ) (c : Change) (cs : List Change) → list_any (hits section key) cs ≡ false → Only section key c cs
unfolding Only
none_only section key c [] none = tt
none_only section key c (x ∷ xs) none =
    let no : hits section key x ≡ false = or_left _ _ none in
    ((λ h. absurd (let bad : true ≡ false = sym h ∙ no in cc)), none_only section key c xs (or_right (hits section key x) _ none))

-- no two changes set one key
unfoldable pub AreApart : List Change → Type 0
AreApart [] = Unit {0}
AreApart (c ∷ cs) = (list_any (hits c.section c.key) cs ≡ false) × AreApart cs

pub any_same : {A : Type 0} (p q : A → Bool) (xs : List A) → ((x : A) → p x ≡ q x) → list_any p xs ≡ list_any q xs
any_same p q [] same = refl
any_same p q (x ∷ xs) same = rw (same x) (ap (λ b. q x || b) (any_same p q xs same))

-- what a change hits, its section and key do
hits_same : (section : ℕ) (key : List ℕ) (c : Change) → hits section key c ≡ true → (x : Change) → hits section key x ≡ hits c.section c.key x
hits_same section key c h x =
    let place : c.section ≡ section = sections_equal c.section section (and_left _ _ h) in
    let name : same_name x.key c.key ≡ same_name x.key key = same_right c.key key x.key (and_right (c.section == section) _ h) in
    rw (place, name) refl

only : (section : ℕ) (key : List ℕ) (c : Change) (cs : List Change) → AreApart cs → find (hits section key) cs ≡ Some c → Only section key c cs
unfolding Only AreApart
only section key c [] apart e = tt
only section key c (x ∷ xs) apart e = by_test (hits section key x) refl e (only section key c xs apart.1)
  where
    by_test : (b : Bool) → hits section key x ≡ b → cond b (Some x) (find (hits section key) xs) ≡ Some c → (find (hits section key) xs ≡ Some c → Only section key c xs)
        → (hits section key x ≡ true → x ≡ c) × Only section key c xs
    by_test true is h later =
        let same : x ≡ c = cc in
        let none : list_any (hits section key) xs ≡ false = any_same (hits section key) (hits x.section x.key) xs (hits_same section key x is) ∙ apart.0 in
        ((λ k. same), none_only section key c xs none)
    by_test false is h later = ((λ k. absurd (let bad : true ≡ false = sym k ∙ is in cc)), later h)

only_found : (p : Change → Bool) (section : ℕ) (key : List ℕ) (c d : Change) (cs : List Change) → Only section key c cs → find p cs ≡ Some d → hits section key d ≡ true → d ≡ c
unfolding Only
only_found p section key c d [] h e is = cc
only_found p section key c d (x ∷ xs) h e is = by_test (p x) e (only_found p section key c d xs h.1)
  where
    by_test : (b : Bool) → cond b (Some x) (find p xs) ≡ Some d → (find p xs ≡ Some d → hits section key d ≡ true → d ≡ c) → d ≡ c
    by_test true k later =
        let same : x ≡ d = cc in
        sym same ∙ h.0 (ap (hits section key) same ∙ is)
    by_test false k later = later k is

pub found_test : {A : Type 0} (p : A → Bool) (xs : List A) (x : A) → find p xs ≡ Some x → p x ≡ true
found_test p [] x e = cc
found_test p (y ∷ ys) x e = by_test (p y) refl e (found_test p ys x)
  where
    by_test : (b : Bool) → p y ≡ b → cond b (Some y) (find p ys) ≡ Some x → (find p ys ≡ Some x → p x ≡ true) → p x ≡ true
    by_test true is h later = let same : y ≡ x = cc in ap p (sym same) ∙ is
    by_test false is h later = later h

-- each row that is found for the key is the line of this change
FindsLine : ℕ → List ℕ → Change → List Row → Type 0
FindsLine section key c rows = (r : Row) → find (has_key section key) rows ≡ Some r → r.body ≡ pair_of c

finds_either : (section : ℕ) (key : List ℕ) (c : Change) (xs ys : List Row) → FindsLine section key c xs → FindsLine section key c ys → FindsLine section key c (xs ++ ys)
unfolding FindsLine
finds_either section key c xs ys first second r e = by_first (find (has_key section key) xs) refl (sym (find-append (has_key section key) xs ys) ∙ e)
  where
    by_first : (o : Option Row) → find (has_key section key) xs ≡ o → option_or o (find (has_key section key) ys) ≡ Some r → r.body ≡ pair_of c
    by_first None is h = second r h
    by_first (Some x) is h = let same : x ≡ r = cc in first r (is ∙ ap Some same)

finds_one : (section : ℕ) (key : List ℕ) (c : Change) (row : Row) (rows : List Row) → (has_key section key row ≡ true → row.body ≡ pair_of c)
    → FindsLine section key c rows → FindsLine section key c (row ∷ rows)
unfolding FindsLine
finds_one section key c row rows own later r e = by_test (has_key section key row) refl e
  where
    by_test : (b : Bool) → has_key section key row ≡ b → cond b (Some row) (find (has_key section key) rows) ≡ Some r → r.body ≡ pair_of c
    by_test true is h = let same : row ≡ r = cc in ap (λ x. x.body) (sym same) ∙ own is
    by_test false is h = later r h

finds_none : (section : ℕ) (key : List ℕ) (c : Change) → FindsLine section key c []
unfolding FindsLine
finds_none section key c r e = cc

finds_new : (newline : List ℕ) (p : Change → Bool) (section : ℕ) (key : List ℕ) (c : Change) (cs : List Change) → AreClean cs → Only section key c cs
    → FindsLine section key c (map (new_row newline) (filter p cs))
unfolding AreClean Only
finds_new newline p section key c [] clean only = finds_none section key c
finds_new newline p section key c (x ∷ xs) clean only = by_test (p x) (finds_new newline p section key c xs clean.1 only.1)
  where
    own : has_key section key (new_row newline x) ≡ true → (new_row newline x).body ≡ pair_of c
    own h = ap pair_of (only.0 (sym (new_hits newline section key x clean.0) ∙ h))

    by_test : (b : Bool) → FindsLine section key c (map (new_row newline) (filter p xs)) → FindsLine section key c (map (new_row newline) (cond b (x ∷ filter p xs) (filter p xs)))
    by_test true later = finds_one section key c (new_row newline x) (map (new_row newline) (filter p xs)) own later
    by_test false later = later

any_none : (p : Change → Bool) (cs : List Change) (c : Change) → find p cs ≡ None → list_any p cs ≡ true → ⊥
any_none p [] c e h = cc
any_none p (x ∷ xs) c e h = by_test (p x) refl e h (any_none p xs c)
  where
    by_test : (b : Bool) → p x ≡ b → cond b (Some x) (find p xs) ≡ None → b || list_any p xs ≡ true → (find p xs ≡ None → list_any p xs ≡ true → ⊥) → ⊥
    by_test true is k l later = cc
    by_test false is k l later = later k l

-- the change sets a key of the row, so the row is changed
finds_changed : (section : ℕ) (key : List ℕ) (c : Change) (cs : List Change) (row : Row) → AreClean cs → Only section key c cs → find (hits section key) cs ≡ Some c
    → has_key section key (changed cs row) ≡ true → (changed cs row).body ≡ pair_of c
finds_changed section key c cs row clean only e =
    changed_by (λ r. has_key section key r ≡ true → r.body ≡ pair_of c) cs row clean
    (λ none at. absurd (any_none (λ change. has_key change.section change.key row) cs c none (any_found (hits section key) (λ change. has_key change.section change.key row) cs c e (mine at))))
    (λ d found own there at. ap pair_of (only_found (λ change. has_key change.section change.key row) section key c d cs only found (sym (written_hits section key d row own there) ∙ at)))
  where
    mine : has_key section key row ≡ true → has_key c.section c.key row ≡ true
    mine at =
        let h : hits section key c ≡ true = (found_test (hits section key) cs c e) in
        let place : c.section ≡ section = sections_equal c.section section (and_left _ _ h) in
        let name : same_name (key_of row.body) c.key ≡ same_name (key_of row.body) key = same_right c.key key (key_of row.body) (and_right (c.section == section) _ h) in
        (rw (place, name) refl) ∙ at

-- the changed text has the line of a change for its key
finds_line : (section : ℕ) (key : List ℕ) (c : Change) (rows : List Row) (cs : List Change) (newline : List ℕ) (later : List Row) → AreClean cs → Only section key c cs
    → find (hits section key) cs ≡ Some c → FindsLine section key c (rewritten rows cs newline later)
finds_line section key c rows cs newline [] clean only e = finds_none section key c
finds_line section key c rows cs newline (row ∷ later) clean only e =
    finds_one section key c (changed cs row) (behind rows cs newline row later ++ rewritten rows cs newline later) (finds_changed section key c cs row clean only e)
    (finds_either section key c (behind rows cs newline row later) (rewritten rows cs newline later) (by_last (is_last row later)) (finds_line section key c rows cs newline later clean only e))
  where
    by_last : (b : Bool) → FindsLine section key c (cond b (new_rows rows cs newline row.section) [])
    by_last true = finds_new newline (is_new rows row.section) section key c cs clean only
    by_last false = finds_none section key c

pub or_true_right : (a b : Bool) → b ≡ true → (a || b) ≡ true
or_true_right true b e = refl
or_true_right false b e = e

-- a key that is there stays there
stays : (section : ℕ) (key : List ℕ) (rows : List Row) (cs : List Change) (newline : List ℕ) (later : List Row) → AreClean cs
    → list_any (has_key section key) later ≡ true → list_any (has_key section key) (rewritten rows cs newline later) ≡ true
stays section key rows cs newline [] clean h = h
stays section key rows cs newline (row ∷ later) clean h = by_test (has_key section key row) refl h (stays section key rows cs newline later clean)
  where
    rest : list_any (has_key section key) (rewritten rows cs newline later) ≡ true → list_any (has_key section key) (behind rows cs newline row later ++ rewritten rows cs newline later) ≡ true
    rest k = list_any-append (has_key section key) (behind rows cs newline row later) (rewritten rows cs newline later) ∙ or_true_right _ _ k

    same : has_key section key (changed cs row) ≡ has_key section key row
    same = changed_by (λ r. has_key section key r ≡ has_key section key row) cs row clean (λ e. refl)
        (λ d found own there. written_hits section key d row own there ∙ sym (changed_hits section key d row there))

    by_test : (b : Bool) → has_key section key row ≡ b → b || list_any (has_key section key) later ≡ true
        → (list_any (has_key section key) later ≡ true → list_any (has_key section key) (rewritten rows cs newline later) ≡ true)
        → has_key section key (changed cs row) || list_any (has_key section key) (behind rows cs newline row later ++ rewritten rows cs newline later) ≡ true
    by_test true is k next = let yes : has_key section key (changed cs row) ≡ true = same ∙ is in rw yes refl
    by_test false is k next = or_true_right (has_key section key (changed cs row)) _ (rest (next k))

-- a key that is nowhere comes behind the last header or key of its section
comes_new : (newline : List ℕ) (p : Change → Bool) (section : ℕ) (key : List ℕ) (c : Change) (cs : List Change) → AreClean cs → p c ≡ true
    → find (hits section key) cs ≡ Some c → list_any (has_key section key) (map (new_row newline) (filter p cs)) ≡ true
unfolding AreClean
comes_new newline p section key c [] clean fresh e = cc
comes_new newline p section key c (x ∷ xs) clean fresh e = by_hit (hits section key x) refl e (comes_new newline p section key c xs clean.1 fresh)
  where
    tail : (b : Bool) → list_any (has_key section key) (map (new_row newline) (filter p xs)) ≡ true
        → list_any (has_key section key) (map (new_row newline) (cond b (x ∷ filter p xs) (filter p xs))) ≡ true
    tail true k = or_true_right (has_key section key (new_row newline x)) _ k
    tail false k = k

    head : hits section key x ≡ true → p x ≡ true → list_any (has_key section key) (map (new_row newline) (cond (p x) (x ∷ filter p xs) (filter p xs))) ≡ true
    head is passes =
        let here : has_key section key (new_row newline x) ≡ true = new_hits newline section key x clean.0 ∙ is in
        rw (passes, here) refl

    by_hit : (b : Bool) → hits section key x ≡ b → cond b (Some x) (find (hits section key) xs) ≡ Some c
        → (find (hits section key) xs ≡ Some c → list_any (has_key section key) (map (new_row newline) (filter p xs)) ≡ true)
        → list_any (has_key section key) (map (new_row newline) (cond (p x) (x ∷ filter p xs) (filter p xs))) ≡ true
    by_hit true is k later = let same : x ≡ c = cc in head is (ap p same ∙ fresh)
    by_hit false is k later = tail (p x) (later k)

comes : (section : ℕ) (key : List ℕ) (c : Change) (rows : List Row) (cs : List Change) (newline : List ℕ) (later : List Row) → AreClean cs
    → list_any (has_key c.section c.key) rows ≡ false → find (hits section key) cs ≡ Some c → list_any (is_entry section) later ≡ true
    → list_any (has_key section key) (rewritten rows cs newline later) ≡ true
comes section key c rows cs newline [] clean none e h = cc
comes section key c rows cs newline (row ∷ later) clean none e h =
    by_rest (list_any (is_entry section) later) refl h (comes section key c rows cs newline later clean none e)
  where
    put : list_any (has_key section key) (behind rows cs newline row later ++ rewritten rows cs newline later) ≡ true
        → has_key section key (changed cs row) || list_any (has_key section key) (behind rows cs newline row later ++ rewritten rows cs newline later) ≡ true
    put k = or_true_right (has_key section key (changed cs row)) _ k

    or_true_left : (a b : Bool) → a ≡ true → (a || b) ≡ true
    or_true_left true b k = refl
    or_true_left false b k = cc

    own_true : (a : Bool) → a || false ≡ true → a ≡ true
    own_true true k = refl
    own_true false k = k

    here : is_entry section row ≡ true → list_any (is_entry section) later ≡ false → list_any (has_key section key) (behind rows cs newline row later) ≡ true
    here entry last =
        let place : row.section ≡ section = sections_equal row.section section (and_right (not (is_kind row.kind Other)) _ entry) in
        let there : not (is_kind row.kind Other) && (section == section) ≡ true = rw place at entry in
        let ends : is_last row later ≡ true = rw (place, last) (ap (λ b. b && true) there) in
        let hit : hits section key c ≡ true = found_test (hits section key) cs c e in
        let own : (c.section == section) ≡ true = and_left _ _ hit in
        let fresh : is_new rows section c ≡ true = rw (own, none) refl in
        rw (ends, place) (comes_new newline (is_new rows section) section key c cs clean fresh e)

    by_rest : (b : Bool) → list_any (is_entry section) later ≡ b → is_entry section row || b ≡ true
        → (list_any (is_entry section) later ≡ true → list_any (has_key section key) (rewritten rows cs newline later) ≡ true)
        → has_key section key (changed cs row) || list_any (has_key section key) (behind rows cs newline row later ++ rewritten rows cs newline later) ≡ true
    by_rest true is k next = put (list_any-append (has_key section key) (behind rows cs newline row later) (rewritten rows cs newline later) ∙ or_true_right _ _ (next is))
    by_rest false is k next =
        put (list_any-append (has_key section key) (behind rows cs newline row later) (rewritten rows cs newline later) ∙ or_true_left _ _ (here (own_true _ k) is))

any_find : {A : Type 0} (p : A → Bool) (xs : List A) → list_any p xs ≡ true → (x : A) × (find p xs ≡ Some x)
any_find {A = A} p [] h = cc
any_find {A = A} p (x ∷ xs) h = by_test (p x) h (any_find p xs)
  where
    by_test : (b : Bool) → b || list_any p xs ≡ true → (list_any p xs ≡ true → (y : A) × (find p xs ≡ Some y)) → (y : A) × (cond b (Some x) (find p xs) ≡ Some y)
    by_test true k later = (x, refl)
    by_test false k later = later k

-- a key that a change sets has the change's line: where it was, or behind the last header or key of its section
pub set_key_line : (section : ℕ) (key : List ℕ) (c : Change) (rows : List Row) (cs : List Change) → AreClean cs → AreApart cs → find (hits section key) cs ≡ Some c
    → list_any (is_entry section) rows ≡ true → (r : Row) × (find (has_key section key) (with_keys cs rows) ≡ Some r) × (r.body ≡ pair_of c)
unfolding FindsLine
set_key_line section key c rows cs clean apart e entry =
    let newline = newline_of rows in
    let there : list_any (has_key section key) (rewritten rows cs newline rows) ≡ true = by_old (list_any (has_key section key) rows) refl in
    let found = any_find (has_key section key) (rewritten rows cs newline rows) there in
    (found.0, found.1, finds_line section key c rows cs newline rows clean (only section key c cs apart e) e found.0 found.1)
  where
    same : (row : Row) → has_key c.section c.key row ≡ has_key section key row
    same row =
        let h : hits section key c ≡ true = found_test (hits section key) cs c e in
        let place : c.section ≡ section = sections_equal c.section section (and_left _ _ h) in
        let name : same_name (key_of row.body) c.key ≡ same_name (key_of row.body) key = same_right c.key key (key_of row.body) (and_right (c.section == section) _ h) in
        rw (place, name) refl

    by_old : (b : Bool) → list_any (has_key section key) rows ≡ b → list_any (has_key section key) (rewritten rows cs (newline_of rows) rows) ≡ true
    by_old true is = stays section key rows cs (newline_of rows) rows clean is
    by_old false is = comes section key c rows cs (newline_of rows) rows clean (any_same _ _ rows same ∙ is) e entry
