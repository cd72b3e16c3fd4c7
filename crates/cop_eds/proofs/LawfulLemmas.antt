-- A text whose keys are set is lawful.
use Rattle.std.proofs.Common.{◌≡◌, ◌⊎◌, inl, inr, ℕ, Bool, true, false, not, cond, ◌&&◌, ◌||◌, ◌==◌, List, [], ◌∷◌, ◌++◌, map, filter, refl, sym, ap, ◌∙◌, arith, append_assoc, append-nil}
use Rattle.std.specs.List.{list_any}
use Rattle.std.proofs.lemmas.Bool.Decides.{nat_tests}
use Rattle.std.proofs.lemmas.List.Folds.{list_any-append}
use Rattle.std.proofs.lemmas.Slice.Eq.{bytes_eq-Decides}
use Rattle.std.specs.Str.{str_to_ascii_lowercase}
use Rattle.cop_eds.specs.declared.line.Kind.{Kind}
use Rattle.cop_eds.specs.declared.line.Kind.TheVariants.{Other, Header, Pair}
use Rattle.cop_eds.specs.Text.{name_of, key_of, same_name}
use Rattle.cop_eds.specs.Lines.{is_kind}
use Rattle.cop_eds.specs.Rows.{Row, has_name, has_key}
use Rattle.cop_eds.specs.Edits.{Change, pair_of, changed, is_entry, is_last, is_new, new_row, new_rows, rewritten, with_keys, newline_of}
use Rattle.cop_eds.proofs.RowLemmas.{is_lawful_kind, is_lawful, are_lawful}
use Rattle.cop_eds.proofs.EditLemmas.{hits, IsClean, AreClean, AreApart, changed_by, changed_hits, written_hits, new_hits, and_left, and_right, false_by, sections_equal, has_pair, same_right, any_same, behind, or_true_right}

own_name : (a : List ℕ) → same_name a a ≡ true
own_name a = (bytes_eq-Decides (str_to_ascii_lowercase a) (str_to_ascii_lowercase a)).1 refl

pub lawful_append : (earlier xs ys : List Row) → are_lawful earlier (xs ++ ys) ≡ (are_lawful earlier xs && are_lawful (earlier ++ xs) ys)
lawful_append earlier [] ys = ap (λ e. are_lawful e ys) (sym (append-nil earlier))
lawful_append earlier (x ∷ xs) ys =
    ap (λ b. is_lawful earlier x && b) (lawful_append (earlier ++ x ∷ []) xs ys ∙ ap (λ e. are_lawful (earlier ++ x ∷ []) xs && are_lawful e ys) (append_assoc earlier (x ∷ []) xs))
    ∙ regroup (is_lawful earlier x) (are_lawful (earlier ++ x ∷ []) xs) (are_lawful (earlier ++ x ∷ xs) ys)
  where
    regroup : (a b c : Bool) → a && (b && c) ≡ ((a && b) && c)
    regroup true b c = refl
    regroup false b c = refl

pub both : (a b : Bool) → a ≡ true → b ≡ true → a && b ≡ true
both true b e h = h
both false b e h = cc

or_cases : (a b : Bool) → a || b ≡ true → (a ≡ true) ⊎ (b ≡ true)
or_cases true b e = inl refl
or_cases false b e = inr e

or_left_true : (a b : Bool) → a ≡ true → (a || b) ≡ true
or_left_true true b e = refl
or_left_true false b e = cc

clash : (b : Bool) → b ≡ true → b ≡ false → ⊥
clash b e f = let bad : true ≡ false = sym e ∙ f in cc

-- one is false where the other is, if they are the same key
hits_symmetric : (x y : Change) → hits y.section y.key x ≡ false → hits x.section x.key y ≡ false
hits_symmetric x y none = false_by (hits x.section x.key y) (λ h.
    let place : y.section ≡ x.section = sections_equal y.section x.section (and_left _ _ h) in
    let name : same_name x.key y.key ≡ same_name x.key x.key = same_right y.key x.key x.key (and_right (y.section == x.section) _ h) in
    let back : (x.section == y.section) ≡ true = grind (arith, nat_tests) in
    clash (hits y.section y.key x) (both _ _ back (name ∙ own_name x.key)) none)

-- each change that is new has its key nowhere among these rows
unfoldable Free : (Change → Bool) → List Row → List Change → Type 0
Free p rows [] = Unit {0}
Free p rows (x ∷ xs) = (p x ≡ true → list_any (has_key x.section x.key) rows ≡ false) × Free p rows xs

any_two : (q : Row → Bool) (xs ys : List Row) → list_any q xs ≡ false → list_any q ys ≡ false → list_any q (xs ++ ys) ≡ false
any_two q xs ys e h = list_any-append q xs ys ∙ (rw (e, h) refl)

free_more : (p : Change → Bool) (newline : List ℕ) (rows : List Row) (y : Change) (xs : List Change) → IsClean y → list_any (hits y.section y.key) xs ≡ false
    → Free p rows xs → Free p (rows ++ new_row newline y ∷ []) xs
unfolding Free
free_more p newline rows y [] clean apart free = tt
free_more p newline rows y (x ∷ xs) clean apart free =
    let mine : hits y.section y.key x ≡ false = false_left _ _ apart in
    let other : has_key x.section x.key (new_row newline y) ≡ false = new_hits newline x.section x.key y clean ∙ hits_symmetric x y mine in (
      (λ is. any_two (has_key x.section x.key) rows (new_row newline y ∷ []) (free.0 is) (rw other refl)),
      free_more p newline rows y xs clean (false_right (hits y.section y.key x) _ apart) free.1,
    )
  where
    false_left : (a b : Bool) → a || b ≡ false → a ≡ false
    false_left true b e = cc
    false_left false b e = refl

    false_right : (a b : Bool) → a || b ≡ false → b ≡ false
    false_right true b e = cc
    false_right false b e = e

-- new rows are lawful after rows that have none of their keys
news_lawful : (p : Change → Bool) (newline : List ℕ) (rows : List Row) (cs : List Change) → AreClean cs → AreApart cs → Free p rows cs
    → are_lawful rows (map (new_row newline) (filter p cs)) ≡ true
unfolding Free AreClean AreApart
news_lawful p newline rows [] clean apart free = refl
news_lawful p newline rows (x ∷ xs) clean apart free = by_test (p x) refl
    (λ more. news_lawful p newline (rows ++ new_row newline x ∷ []) xs clean.1 apart.1 more) (news_lawful p newline rows xs clean.1 apart.1 free.1)
  where
    own : p x ≡ true → is_lawful rows (new_row newline x) ≡ true
    own is =
        let key : key_of (pair_of x) ≡ x.key = clean.0.key in
        let inside : (x.section == 0) ≡ false = clean.0.inside in
        let none : list_any (has_key x.section x.key) rows ≡ false = free.0 is in
        rw (inside, key, none) refl

    by_test : (b : Bool) → p x ≡ b
        → (Free p (rows ++ new_row newline x ∷ []) xs → are_lawful (rows ++ new_row newline x ∷ []) (map (new_row newline) (filter p xs)) ≡ true)
        → are_lawful rows (map (new_row newline) (filter p xs)) ≡ true
        → are_lawful rows (map (new_row newline) (cond b (x ∷ filter p xs) (filter p xs))) ≡ true
    by_test true is later without = both _ _ (own is) (later (free_more p newline rows x xs clean.0 apart.0 free.1))
    by_test false is later without = without

-- the rows so far, as they were and as they are: headers are the same, and a key that is there now was there, or it is
-- nowhere in the text and its section is past
record SoFar (rows earlier later now : List Row) : Type 0 where
  headers : (q : Row → Bool) → ((row : Row) → row.kind ≡ Pair → q row ≡ false) → list_any q now ≡ list_any q earlier
  keys : (section : ℕ) (key : List ℕ) → list_any (has_key section key) now ≡ true
      → (list_any (has_key section key) earlier ≡ true) ⊎ ((list_any (has_key section key) rows ≡ false) × (list_any (is_entry section) later ≡ false))

key_row_same : (cs : List Change) (section : ℕ) (key : List ℕ) (row : Row) → AreClean cs → has_key section key (changed cs row) ≡ has_key section key row
key_row_same cs section key row clean =
    changed_by (λ r. has_key section key r ≡ has_key section key row) cs row clean (λ e. refl)
    (λ d found own there. written_hits section key d row own there ∙ sym (changed_hits section key d row there))

header_row_same : (cs : List Change) (q : Row → Bool) (row : Row) → AreClean cs → ((row : Row) → row.kind ≡ Pair → q row ≡ false) → q (changed cs row) ≡ q row
header_row_same cs q row clean none =
    changed_by (λ r. q r ≡ q row) cs row clean (λ e. refl)
    (λ c e own at. none (record row { body = pair_of c }) (has_pair c.section c.key row at) ∙ sym (none row (has_pair c.section c.key row at)))

none_of_news : (q : Row → Bool) (newline : List ℕ) (cs : List Change) → ((row : Row) → row.kind ≡ Pair → q row ≡ false) → list_any q (map (new_row newline) cs) ≡ false
none_of_news q newline [] none = refl
none_of_news q newline (c ∷ cs) none = let here : q (new_row newline c) ≡ false = none (new_row newline c) refl in rw here (none_of_news q newline cs none)

-- a key among new rows is one of a change that is new
news_key : (p : Change → Bool) (newline : List ℕ) (section : ℕ) (key : List ℕ) (cs : List Change) → AreClean cs → list_any (has_key section key) (map (new_row newline) (filter p cs)) ≡ true
    → (x : Change) × (p x ≡ true) × (hits section key x ≡ true)
unfolding AreClean
news_key p newline section key [] clean h = cc
news_key p newline section key (x ∷ xs) clean h = by_test (p x) refl h (news_key p newline section key xs clean.1)
  where
    by_test : (b : Bool) → p x ≡ b → list_any (has_key section key) (map (new_row newline) (cond b (x ∷ filter p xs) (filter p xs))) ≡ true
        → (list_any (has_key section key) (map (new_row newline) (filter p xs)) ≡ true → (x : Change) × (p x ≡ true) × (hits section key x ≡ true))
        → (x : Change) × (p x ≡ true) × (hits section key x ≡ true)
    by_test false is k later = later k
    by_test true is k later = elim (or_cases (has_key section key (new_row newline x)) (list_any (has_key section key) (map (new_row newline) (filter p xs))) k)
        [ inl here ↦ (x, is, sym (new_hits newline section key x clean.0) ∙ here) | inr there ↦ later there ]

pub not_true : (b : Bool) → not b ≡ true → b ≡ false
not_true true e = cc
not_true false e = refl

pub false_not : (b : Bool) → b ≡ false → not b ≡ true
false_not true e = cc
false_not false e = refl

-- a row as it is now is lawful where it was
row_lawful : (rows earlier later now : List Row) (cs : List Change) (row : Row) → AreClean cs → rows ≡ earlier ++ row ∷ later → SoFar rows earlier (row ∷ later) now
    → is_lawful earlier row ≡ true → is_lawful now (changed cs row) ≡ true
row_lawful rows earlier later now cs row clean all so h =
    changed_by (λ r. is_lawful now r ≡ true) cs row clean (λ e. by_kind row.kind refl h)
    (λ c e own at. written c own at)
  where
    inside : has_key row.section (key_of row.body) row ≡ true → list_any (has_key row.section (key_of row.body)) rows ≡ true
    inside at = ap (list_any (has_key row.section (key_of row.body))) all ∙ list_any-append _ earlier (row ∷ later) ∙ or_true_right _ _ (or_left_true _ _ at)

    own_key : row.kind ≡ Pair → has_key row.section (key_of row.body) row ≡ true
    own_key kind =
        let here : (row.section == row.section) ≡ true = grind (arith, nat_tests) in
        rw (kind, here) (own_name (key_of row.body))

    none_now : row.kind ≡ Pair → list_any (has_key row.section (key_of row.body)) earlier ≡ false → list_any (has_key row.section (key_of row.body)) now ≡ false
    none_now kind none = false_by _ (λ k. elim (so.keys row.section (key_of row.body) k)
        [ inl was ↦ clash _ was none | inr past ↦ clash _ (inside (own_key kind)) past.0 ])

    no_name : (n : List ℕ) (r : Row) → r.kind ≡ Pair → has_name n r ≡ false
    no_name n r kind = rw kind refl

    by_kind : (kind : Kind) → row.kind ≡ kind → is_lawful_kind kind earlier row ≡ true → is_lawful_kind kind now row ≡ true
    by_kind Other is k = k
    by_kind Header is k = ap not (so.headers (has_name (name_of row.body)) (no_name (name_of row.body))) ∙ k
    by_kind Pair is k = both _ _ (and_left _ _ k) (false_not _ (none_now is (not_true _ (and_right (not (row.section == 0)) _ k))))

    written : (c : Change) → IsClean c → has_key c.section c.key row ≡ true → is_lawful now (record row { body = pair_of c }) ≡ true
    written c own at =
        let kind : row.kind ≡ Pair = has_pair c.section c.key row at in
        let k : is_lawful_kind Pair earlier row ≡ true = rw kind at h in
        let none : list_any (has_key row.section (key_of row.body)) now ≡ false = none_now kind (not_true _ (and_right (not (row.section == 0)) _ k)) in
        let name : same_name (key_of row.body) c.key ≡ true = and_right (is_kind row.kind Pair && (row.section == c.section)) _ at in
        let same : list_any (has_key row.section c.key) now ≡ list_any (has_key row.section (key_of row.body)) now =
        any_same _ _ now (λ r. ap (λ b. is_kind r.kind Pair && (r.section == row.section) && b) (sym (same_right (key_of row.body) c.key (key_of r.body) name))) in
        let key : list_any (has_key row.section (key_of (pair_of c))) now ≡ false = ap (λ x. list_any (has_key row.section x) now) own.key ∙ same ∙ none in
        rw kind (both _ _ (and_left _ _ k) (false_not _ key))

free_all : (p : Change → Bool) (rows : List Row) (cs : List Change) → ((x : Change) → p x ≡ true → list_any (has_key x.section x.key) rows ≡ false) → Free p rows cs
unfolding Free
free_all p rows [] each = tt
free_all p rows (x ∷ xs) each = (each x, free_all p rows xs each)

entry_there : (row : Row) (later : List Row) → is_last row later ≡ true → is_entry row.section row ≡ true
entry_there row later h = and_left _ _ h

nobody_later : (row : Row) (later : List Row) → is_last row later ≡ true → list_any (is_entry row.section) later ≡ false
nobody_later row later h = not_true _ (and_right (is_entry row.section row) _ h)

-- the rows up to one more, and what is put behind it
so_far_more : (rows earlier later now : List Row) (cs : List Change) (newline : List ℕ) (row : Row) → AreClean cs → rows ≡ earlier ++ row ∷ later → SoFar rows earlier (row ∷ later) now
    → SoFar rows (earlier ++ row ∷ []) later ((now ++ changed cs row ∷ []) ++ behind rows cs newline row later)
so_far_more rows earlier later now cs newline row clean all so = record { headers = headers; keys = keys }
  where
    headers : (q : Row → Bool) → ((row : Row) → row.kind ≡ Pair → q row ≡ false)
        → list_any q ((now ++ changed cs row ∷ []) ++ behind rows cs newline row later) ≡ list_any q (earlier ++ row ∷ [])
    headers q none =
        list_any-append q (now ++ changed cs row ∷ []) (behind rows cs newline row later)
        ∙ ap (λ b. list_any q (now ++ changed cs row ∷ []) || b) (no_behind (is_last row later))
        ∙ or_false (list_any q (now ++ changed cs row ∷ []))
        ∙ list_any-append q now (changed cs row ∷ [])
        ∙ ap (λ b. b || list_any q (changed cs row ∷ [])) (so.headers q none)
        ∙ ap (λ b. list_any q earlier || (b || false)) (header_row_same cs q row clean none)
        ∙ sym (list_any-append q earlier (row ∷ []))
      where
        or_false : (b : Bool) → b || false ≡ b
        or_false true = refl
        or_false false = refl

        no_behind : (b : Bool) → list_any q (cond b (new_rows rows cs newline row.section) []) ≡ false
        no_behind true = none_of_news q newline (filter (is_new rows row.section) cs) none
        no_behind false = refl

    in_row : (section : ℕ) (key : List ℕ) → list_any (has_key section key) (changed cs row ∷ []) ≡ true → list_any (has_key section key) (earlier ++ row ∷ []) ≡ true
    in_row section key h =
        list_any-append (has_key section key) earlier (row ∷ [])
        ∙ or_true_right _ _ (ap (λ b. b || false) (sym (key_row_same cs section key row clean)) ∙ h)

    in_behind : (section : ℕ) (key : List ℕ) (b : Bool) → is_last row later ≡ b → list_any (has_key section key) (cond b (new_rows rows cs newline row.section) []) ≡ true
        → (list_any (has_key section key) rows ≡ false) × (list_any (is_entry section) later ≡ false)
    in_behind section key false is h = cc
    in_behind section key true is h =
        let new = news_key (is_new rows row.section) newline section key cs clean h in
        let x = new.0 in
        let place : x.section ≡ section = sections_equal x.section section (and_left _ _ new.2) in
        let home : x.section ≡ row.section = sections_equal x.section row.section (and_left _ _ new.1) in
        let none : list_any (has_key x.section x.key) rows ≡ false = not_true _ (and_right (x.section == row.section) _ new.1) in
        let name : same_name x.key key ≡ true = and_right (x.section == section) _ new.2 in
        let same : list_any (has_key section key) rows ≡ list_any (has_key x.section x.key) rows =
        any_same _ _ rows (λ r. sym (ap (λ n. is_kind r.kind Pair && (r.section == n) && same_name (key_of r.body) x.key) place ∙ ap (λ b. is_kind r.kind Pair && (r.section == section) && b) (same_right x.key key (key_of r.body) name))) in
        (same ∙ none, ap (λ n. list_any (is_entry n) later) (sym place ∙ home) ∙ nobody_later row later is)

    keys : (section : ℕ) (key : List ℕ) → list_any (has_key section key) ((now ++ changed cs row ∷ []) ++ behind rows cs newline row later) ≡ true
        → (list_any (has_key section key) (earlier ++ row ∷ []) ≡ true) ⊎ ((list_any (has_key section key) rows ≡ false) × (list_any (is_entry section) later ≡ false))
    keys section key h =
        elim (or_cases _ _ (sym (list_any-append (has_key section key) (now ++ changed cs row ∷ []) (behind rows cs newline row later)) ∙ h)) [
          | inl before ↦ elim (or_cases _ _ (sym (list_any-append (has_key section key) now (changed cs row ∷ [])) ∙ before)) [
            | inl old ↦ elim (so.keys section key old) [
              | inl was ↦ inl (list_any-append (has_key section key) earlier (row ∷ []) ∙ or_left_true _ _ was)
              | inr past ↦ inr (past.0, past_later past.1)
            ]
            | inr own ↦ inl (in_row section key own)
          ]
          | inr new ↦ inr (in_behind section key (is_last row later) refl new)
        ]
      where
        past_later : list_any (is_entry section) (row ∷ later) ≡ false → list_any (is_entry section) later ≡ false
        past_later h = by_own (is_entry section row) h
          where
            by_own : (b : Bool) → b || list_any (is_entry section) later ≡ false → list_any (is_entry section) later ≡ false
            by_own true k = cc
            by_own false k = k

-- what is put behind a row is lawful there
behind_lawful : (rows earlier later now : List Row) (cs : List Change) (newline : List ℕ) (row : Row) → AreClean cs → AreApart cs → rows ≡ earlier ++ row ∷ later → SoFar rows earlier (row ∷ later) now
    → are_lawful (now ++ changed cs row ∷ []) (behind rows cs newline row later) ≡ true
behind_lawful rows earlier later now cs newline row clean apart all so = by_last (is_last row later) refl
  where
    among : (q : Row → Bool) → list_any q earlier ≡ true → list_any q rows ≡ true
    among q h = ap (list_any q) all ∙ list_any-append q earlier (row ∷ later) ∙ or_left_true _ _ h

    own : (q : Row → Bool) → q row ≡ true → list_any q rows ≡ true
    own q h = ap (list_any q) all ∙ list_any-append q earlier (row ∷ later) ∙ or_true_right _ _ (or_left_true _ _ h)

    free : is_last row later ≡ true → (x : Change) → is_new rows row.section x ≡ true → list_any (has_key x.section x.key) (now ++ changed cs row ∷ []) ≡ false
    free is x new =
        let home : x.section ≡ row.section = sections_equal x.section row.section (and_left _ _ new) in
        let none : list_any (has_key x.section x.key) rows ≡ false = not_true _ (and_right (x.section == row.section) _ new) in
        let entry : is_entry x.section row ≡ true = ap (λ n. is_entry n row) home ∙ entry_there row later is in
        any_two (has_key x.section x.key) now (changed cs row ∷ [])
        (false_by _ (λ h. elim (so.keys x.section x.key h) [
          | inl was ↦ clash _ (among (has_key x.section x.key) was) none
          | inr past ↦ clash (list_any (is_entry x.section) (row ∷ later)) (or_left_true _ _ entry) past.1
        ]))
        (ap (λ b. b || false) (key_row_same cs x.section x.key row clean) ∙ ap (λ b. b || false) (false_by (has_key x.section x.key row) (λ h. clash _ (own (has_key x.section x.key) h) none)))

    by_last : (b : Bool) → is_last row later ≡ b → are_lawful (now ++ changed cs row ∷ []) (cond b (new_rows rows cs newline row.section) []) ≡ true
    by_last false is = refl
    by_last true is = news_lawful (is_new rows row.section) newline (now ++ changed cs row ∷ []) cs clean apart (free_all (is_new rows row.section) (now ++ changed cs row ∷ []) cs (free is))

rewritten_lawful : (rows earlier later now : List Row) (cs : List Change) (newline : List ℕ) → AreClean cs → AreApart cs → rows ≡ earlier ++ later → SoFar rows earlier later now
    → are_lawful earlier later ≡ true → are_lawful now (rewritten rows cs newline later) ≡ true
rewritten_lawful rows earlier [] now cs newline clean apart all so h = refl
rewritten_lawful rows earlier (row ∷ later) now cs newline clean apart all so h =
    both _ _ (row_lawful rows earlier later now cs row clean all so (and_left _ _ h))
    (lawful_append (now ++ changed cs row ∷ []) (behind rows cs newline row later) (rewritten rows cs newline later)
    ∙ both _ _ (behind_lawful rows earlier later now cs newline row clean apart all so)
    (rewritten_lawful rows (earlier ++ row ∷ []) later ((now ++ changed cs row ∷ []) ++ behind rows cs newline row later) cs newline clean apart
    (all ∙ sym (append_assoc earlier (row ∷ []) later)) (so_far_more rows earlier later now cs newline row clean all so) (and_right (is_lawful earlier row) _ h)))

-- a lawful text stays lawful when keys are set
pub with_keys_lawful : (rows : List Row) (cs : List Change) → AreClean cs → AreApart cs → are_lawful [] rows ≡ true → are_lawful [] (with_keys cs rows) ≡ true
with_keys_lawful rows cs clean apart h =
    rewritten_lawful rows [] rows [] cs (newline_of rows) clean apart refl (record { headers = λ q none. refl; keys = λ section key e. inl e }) h
