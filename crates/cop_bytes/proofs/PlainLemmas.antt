-- A text that needs nothing is read as it is, and nothing is told of it.
use Rattle.std.proofs.Common.{◌≡◌, ℕ, Bool, true, false, ◌==◌, List, [], ◌∷◌, Some, None, refl, ap, rules}
use Rattle.std.specs.List.{list_any}
use Rattle.cop_bytes.proofs.ToldLemmas.{same_ends, same_runs}
use Rattle.cop_bytes.specs.Bytes.{is_marked, is_end_mark, letters_of, uncut, with_ends, ended, prepared, cutting, old_ends, is_last_spare, long_ends, ending, text_changes, stands, are_standing, needs_nothing}

-- nothing is cut
uncut_same : (text : List ℕ) → are_standing text ≡ true → uncut text ≡ text
uncut_same [] h = refl
uncut_same (b ∷ rest) h =
    let no_mark : is_end_mark b ≡ false = search (rules, h) in
    let others : are_standing rest ≡ true = search (rules, h) in
    rw no_mark (ap (λ (a : List ℕ). b ∷ a) (uncut_same rest others))

no_zero : (text : List ℕ) → are_standing text ≡ true → list_any (λ b. b == 0) text ≡ false
no_zero [] h = refl
no_zero (b ∷ rest) h =
    let no : (b == 0) ≡ false = search (rules, h) in
    let others : are_standing rest ≡ true = search (rules, h) in
    rw no (no_zero rest others)

no_spare : (b : ℕ) (rest : List ℕ) → stands b rest ≡ true → is_last_spare b rest ≡ false
no_spare b rest h = search (rules, h)

no_runs : (text : List ℕ) → are_standing text ≡ true → long_ends text ≡ 0
no_runs [] h = refl
no_runs (b ∷ rest) h =
    let no : is_last_spare b rest ≡ false = no_spare b rest (search (rules, h)) in
    let others : are_standing rest ≡ true = search (rules, h) in
    rw no (no_runs rest others)

-- behind CR stands LF
no_cr : (b : ℕ) (rest : List ℕ) → stands b rest ≡ true → list_any (λ c. c == 10) (b ∷ rest) ≡ false → (b == 13) ≡ false
no_cr b [] h e = search (rules, h)
no_cr b (c ∷ rest) h e = search (rules, h, e)

no_ends : (text : List ℕ) → are_standing text ≡ true → list_any (λ b. b == 10) text ≡ false → old_ends text ≡ 0
no_ends [] h e = refl
no_ends (b ∷ rest) h e =
    let no : (b == 13) ≡ false = no_cr b rest (search (rules, h)) e in
    let others : are_standing rest ≡ true = search (rules, h) in
    let none : list_any (λ c. c == 10) rest ≡ false = search (rules, e) in
    rw no (no_ends rest others none)

with_by : (text : List ℕ) (is : Bool) → list_any (λ b. b == 10) text ≡ is → are_standing text ≡ true → with_ends text ≡ text
with_by text true e h = rw e (same_runs text (no_runs text h))
with_by text false e h = rw e (same_ends text (no_ends text h e))

untold_by : (text : List ℕ) (is : Bool) → list_any (λ b. b == 10) text ≡ is → are_standing text ≡ true → ending text ≡ None
untold_by text true e h = rw (e, no_runs text h) refl
untold_by text false e h = rw (e, no_ends text h e) refl

ended_same : (text : List ℕ) → are_standing text ≡ true → ended text ≡ Some text
ended_same text h = rw (uncut_same text h, no_zero text h) (ap Some (with_by text (list_any (λ b. b == 10) text) refl h))

uncut_untold : (text : List ℕ) → are_standing text ≡ true → cutting text ≡ None
uncut_untold text h = rw (uncut_same text h) (search rules)

letters_same : (text : List ℕ) → is_marked text ≡ false → letters_of text ≡ Some text
letters_same text h = search (rules, h)

-- a text that needs nothing is read as it is
pub plain_prepared : (text : List ℕ) → needs_nothing text ≡ true → prepared text ≡ Some text
unfolding prepared
plain_prepared text h = rw (letters_same text (search (rules, h))) (ended_same text (search (rules, h)))

-- nothing is told of it
pub plain_untold : (text : List ℕ) → needs_nothing text ≡ true → text_changes text ≡ []
unfolding text_changes
plain_untold text h =
    let unmarked : is_marked text ≡ false = search (rules, h) in
    let standing : are_standing text ≡ true = search (rules, h) in
    rw (letters_same text unmarked, unmarked, uncut_untold text standing, uncut_same text standing, untold_by text (list_any (λ b. b == 10) text) refl standing) refl
