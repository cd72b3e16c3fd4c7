-- Rows of which no key is set stay, in their order.
use Rattle.std.proofs.Common.{◌≡◌, ◌<◌, ◌+◌, ◌-◌, ℕ, zero, suc, Bool, true, false, cond, ◌==◌, List, [], ◌∷◌, ◌++◌, length, map, find, get_or, Option, Some, None, All, refl, sym, ap, ◌∙◌, arith}
use Rattle.std.specs.Prelude.{filter, is_none, slice_index}
use Rattle.std.specs.Option.{option_map_or}
use Rattle.std.proofs.lemmas.Bool.Decides.{nat_tests}
use Rattle.std.specs.Str.{str_to_ascii_lowercase}
use Rattle.std.proofs.lemmas.List.Elements.{All-head, All-tail, filter-append}
use Rattle.std.proofs.lemmas.Slice.Eq.{bytes_eq-Decides}
use Rattle.cop_eds.specs.Text.{same_name}
use Rattle.cop_eds.specs.Rows.{Row, rows_of, has_key}
use Rattle.cop_eds.specs.Edits.{Change, pair_of, change_of, is_new, is_last, new_row, new_rows, rewritten, newline_of, with_keys, ended, closed}
use Rattle.cop_eds.proofs.EditLemmas.{IsClean, AreClean, found_clean, changed_hits, written_hits, new_hits, behind}
use Rattle.cop_eds.proofs.KeepsLemmas.{IsEdit, with_both}
use Rattle.cop_dcf.specs.Free.{is_free, bare, free_rows}

-- a test that is the same everywhere finds the same
same_find : {A : Type 0} (p q : A → Bool) (xs : List A) → ((x : A) → p x ≡ q x) → find p xs ≡ find q xs
same_find p q [] same = refl
same_find p q (x ∷ xs) same = rw (same x) (ap (λ o. cond (q x) (Some x) o) (same_find p q xs same))

found_some : {A : Type 0} (p : A → Bool) (xs : List A) (k : ℕ) (d : A) → k < length xs → p (get_or xs k d) ≡ true → is_none (find p xs) ≡ false
found_some p [] k d below h = absurd (omega arith)
found_some p (x ∷ xs) zero d below h = rw h refl
found_some p (x ∷ xs) (suc k) d below h = by_test (p x) (found_some p xs k d (omega (arith, below)) h)
  where
    by_test : (b : Bool) → is_none (find p xs) ≡ false → is_none (cond b (Some x) (find p xs)) ≡ false
    by_test true later = refl
    by_test false later = later

-- a row whose key was set has a key that is set
written_is_set : (cs : List Change) (row : Row) (c : Change) → AreClean cs → change_of cs row ≡ Some c → is_free cs (record row { body = pair_of c }) ≡ false
written_is_set cs row c clean e =
    let found = found_clean (λ (change : Change). has_key change.section change.key row) cs c clean e in
    let same = same_find (λ (x : Change). has_key x.section x.key (record row { body = pair_of c })) (λ (x : Change). has_key x.section x.key row) cs
    (λ x. written_hits x.section x.key c row found.0 found.1 ∙ sym (changed_hits x.section x.key c row found.1)) in
    ap is_none (same ∙ e)

own_name : (name : List ℕ) → same_name name name ≡ true
own_name name = (bytes_eq-Decides (str_to_ascii_lowercase name) (str_to_ascii_lowercase name)).1 refl

same_number : (n : ℕ) → (n == n) ≡ true
same_number n = grind (arith, nat_tests)

clean_at : (cs : List Change) (k : ℕ) (d : Change) → AreClean cs → k < length cs → IsClean (get_or cs k d)
unfolding AreClean
clean_at [] k d clean below = absurd (omega arith)
clean_at (c ∷ cs) zero d clean below = clean.0
clean_at (c ∷ cs) (suc k) d clean below = clean_at cs k d clean.1 (omega (arith, below))

-- so has a row that is new
new_is_set : (newline : List ℕ) (cs : List Change) → AreClean cs → All (λ c. is_free cs (new_row newline c) ≡ false) cs
new_is_set newline cs clean k d below =
    let c : Change = get_or cs k d in
    let hit : has_key c.section c.key (new_row newline c) ≡ true = new_hits newline c.section c.key c (clean_at cs k d clean below) ∙ rw (same_number c.section, own_name c.key) refl in
    found_some (λ (x : Change). has_key x.section x.key (new_row newline c)) cs k d below hit

none_new : (all : List Change) (newline : List ℕ) (p : Change → Bool) (cs : List Change) → All (λ c. is_free all (new_row newline c) ≡ false) cs → filter (is_free all) (map (new_row newline) (filter p cs)) ≡ []
none_new all newline p [] set = refl
none_new all newline p (c ∷ cs) set =
    let P : Change → Type 0 = λ c. is_free all (new_row newline c) ≡ false in
    by_test (p c) (All-head P c cs set) (none_new all newline p cs (All-tail P c cs set))
  where
    by_test : (b : Bool) → is_free all (new_row newline c) ≡ false → filter (is_free all) (map (new_row newline) (filter p cs)) ≡ []
        → filter (is_free all) (map (new_row newline) (cond b (c ∷ filter p cs) (filter p cs))) ≡ []
    by_test true here later = rw here later
    by_test false here later = later

kept_rows : (rows : List Row) (cs : List Change) (newline : List ℕ) (later : List Row) → AreClean cs → filter (is_free cs) (rewritten rows cs newline later) ≡ filter (is_free cs) later
kept_rows rows cs newline [] clean = refl
kept_rows rows cs newline (row ∷ later) clean =
    let rest : filter (is_free cs) (behind rows cs newline row later ++ rewritten rows cs newline later) ≡ filter (is_free cs) later =
    filter-append (is_free cs) (behind rows cs newline row later) (rewritten rows cs newline later) ∙ (ap (λ xs. xs ++ filter (is_free cs) (rewritten rows cs newline later)) (skipped (is_last row later)) ∙ kept_rows rows cs newline later clean) in
    by_change (change_of cs row) refl rest
  where
    skipped : (b : Bool) → filter (is_free cs) (cond b (new_rows rows cs newline row.section) []) ≡ []
    skipped true = none_new cs newline (is_new rows row.section) cs (new_is_set newline cs clean)
    skipped false = refl

    by_change : (o : Option Change) → change_of cs row ≡ o → filter (is_free cs) (behind rows cs newline row later ++ rewritten rows cs newline later) ≡ filter (is_free cs) later
        → filter (is_free cs) (option_map_or (λ change. record row { body = pair_of change }) o row ∷ (behind rows cs newline row later ++ rewritten rows cs newline later)) ≡ filter (is_free cs) (row ∷ later)
    by_change None e rest =
        let free : is_free cs row ≡ true = ap is_none e in
        rw free (ap (λ xs. row ∷ xs) rest)
    by_change (Some c) e rest =
        let free : is_free cs row ≡ false = ap is_none e in
        rw (written_is_set cs row c clean e, free) rest

-- ends of lines are of no account
ended_bare : (newline : List ℕ) (row : Row) → bare (ended newline row) ≡ bare row
ended_bare newline row = by_test (length row.ending == 0)
  where
    by_test : (b : Bool) → bare (cond b (record row { ending = cond (slice_index row.body (length row.body - 1) == 13) (13 ∷ 10 ∷ []) newline }) row) ≡ bare row
    by_test true = refl
    by_test false = refl

ended_free : (cs : List Change) (newline : List ℕ) (row : Row) → is_free cs (ended newline row) ≡ is_free cs row
ended_free cs newline row = by_test (length row.ending == 0)
  where
    by_test : (b : Bool) → is_free cs (cond b (record row { ending = cond (slice_index row.body (length row.body - 1) == 13) (13 ∷ 10 ∷ []) newline }) row) ≡ is_free cs row
    by_test true = refl
    by_test false = refl

closed_rows : (cs : List Change) (newline : List ℕ) (rows : List Row) → free_rows cs (closed newline rows) ≡ free_rows cs rows
closed_rows cs newline [] = refl
closed_rows cs newline (row ∷ []) = refl
closed_rows cs newline (row ∷ next ∷ rows) = rw (ended_free cs newline row) (by_test (is_free cs row) (closed_rows cs newline (next ∷ rows)))
  where
    by_test : (b : Bool) → free_rows cs (closed newline (next ∷ rows)) ≡ free_rows cs (next ∷ rows)
        → map bare (cond b (ended newline row ∷ filter (is_free cs) (closed newline (next ∷ rows))) (filter (is_free cs) (closed newline (next ∷ rows)))) ≡ map bare (cond b (row ∷ filter (is_free cs) (next ∷ rows)) (filter (is_free cs) (next ∷ rows)))
    by_test true later = ap (λ r. r ∷ free_rows cs (closed newline (next ∷ rows))) (ended_bare newline row) ∙ ap (λ rs. bare row ∷ rs) later
    by_test false later = later

-- an edit keeps the rows whose keys are not set
pub edit_rows : (old new : List ℕ) (cs : List Change) → IsEdit old new cs → free_rows cs (rows_of new) ≡ free_rows cs (with_both (rows_of old))
edit_rows old new cs edit =
    ap (free_rows cs) edit.rows
    ∙ (closed_rows cs edit.newline (with_keys cs (with_both (rows_of old)))
    ∙ ap (map bare) (kept_rows (with_both (rows_of old)) cs (newline_of (with_both (rows_of old))) (with_both (rows_of old)) edit.clean))
