-- Where nothing is told of the bytes of a text, they are as they were.
use Rattle.std.proofs.Common.{◌≡◌, ℕ, zero, suc, ◌<◌, ◌≤◌, Bool, true, false, ◌==◌, List, [], ◌∷◌, ◌++◌, length, map, Option, Some, None, refl, ap, sym, ◌∙◌, arith, rules}
use Rattle.std.specs.List.{list_any}
use Rattle.cop_bytes.specs.declared.change.TextChange.{TextChange}
use Rattle.cop_bytes.specs.Bytes.{is_marked, letters_of, is_tail, uncut, ends_line, is_spare, short_ends, new_end, with_ends, ended, ended_letters, prepared, cutting, old_ends, is_last_spare, long_ends, unless_none, ending, listed, decoding, letter_changes, text_changes}

whole_by : (b : ℕ) (rest : List ℕ) (is : Bool) → is_tail b rest ≡ is → (length (uncut rest) ≡ length rest → uncut rest ≡ rest)
    → length (uncut (b ∷ rest)) ≡ length (b ∷ rest) → uncut (b ∷ rest) ≡ b ∷ rest
whole_by b rest true h below e = absurd (omega (arith, rw h at e))
whole_by b rest false h below e = rw h (ap (λ (a : List ℕ). b ∷ a) (below (omega (arith, rw h at e))))

-- a text of which nothing is cut is whole
pub whole : (text : List ℕ) → length (uncut text) ≡ length text → uncut text ≡ text
whole [] e = refl
whole (b ∷ rest) e = whole_by b rest (is_tail b rest) refl (whole rest) e

new_by : (b : ℕ) (rest : List ℕ) (is : Bool) → (b == 13) ≡ is → (old_ends rest ≡ 0 → map new_end rest ≡ rest) → old_ends (b ∷ rest) ≡ 0 → map new_end (b ∷ rest) ≡ b ∷ rest
new_by b rest true h below e = absurd (omega (arith, rw h at e))
new_by b rest false h below e = rw h (ap (λ (a : List ℕ). b ∷ a) (below (rw h at e)))

-- without CR no end of a line is another one
pub same_ends : (text : List ℕ) → old_ends text ≡ 0 → map new_end text ≡ text
same_ends [] e = refl
same_ends (b ∷ rest) e = new_by b rest (b == 13) refl (same_ends rest) e

no_fewer_by : (b : ℕ) (rest : List ℕ) (is : Bool) → is_last_spare b rest ≡ is → long_ends rest ≤ long_ends (b ∷ rest)
no_fewer_by b rest true h = rw h (omega arith)
no_fewer_by b rest false h = rw h (omega arith)

no_fewer : (b : ℕ) (rest : List ℕ) → long_ends rest ≤ long_ends (b ∷ rest)
no_fewer b rest = no_fewer_by b rest (is_last_spare b rest) refl

run_by : (b : ℕ) (rest : List ℕ) (is : Bool) → (b == 13) ≡ is → (ends_line rest ≡ true → 0 < long_ends (13 ∷ 13 ∷ rest)) → ends_line (b ∷ rest) ≡ true
    → 0 < long_ends (13 ∷ 13 ∷ b ∷ rest)
run_by b rest true h below e =
    let same : b ≡ 13 = search (rules, h) in
    let longer : long_ends (13 ∷ 13 ∷ rest) ≤ long_ends (13 ∷ 13 ∷ 13 ∷ rest) = no_fewer 13 (13 ∷ 13 ∷ rest) in
    rw same (omega (arith, longer, below (rw h at e)))
run_by b rest false h below e =
    let same : b ≡ 10 = search (rules, h, e) in
    rw same (omega (arith))

-- two CR, and LF behind nothing but CR: a run is longer than one
long_run : (rest : List ℕ) → ends_line rest ≡ true → 0 < long_ends (13 ∷ 13 ∷ rest)
long_run [] e = absurd (search (rules, e))
long_run (b ∷ rest) e = run_by b rest (b == 13) refl (long_run rest) e

spare_run : (b : ℕ) (rest : List ℕ) → is_spare b rest ≡ true → 0 < long_ends (b ∷ rest)
spare_run b [] h = absurd (search (rules, h))
spare_run b (c ∷ rest) h =
    let first : b ≡ 13 = search (rules, h) in
    let second : c ≡ 13 = search (rules, h) in
    let ended : ends_line (c ∷ rest) ≡ true = search (rules, h) in
    let ends : ends_line rest ≡ true = rw second at ended in
    rw (first, second) (long_run rest ends)

short_by : (b : ℕ) (rest : List ℕ) (is : Bool) → is_spare b rest ≡ is → (long_ends rest ≡ 0 → short_ends rest ≡ rest) → long_ends (b ∷ rest) ≡ 0 → short_ends (b ∷ rest) ≡ b ∷ rest
short_by b rest true h below e = absurd (omega (arith, spare_run b rest h, e))
short_by b rest false h below e = rw h (ap (λ (a : List ℕ). b ∷ a) (below (omega (arith, no_fewer b rest, e))))

-- where no run of CR before LF is longer than one no CR is spare
pub same_runs : (text : List ℕ) → long_ends text ≡ 0 → short_ends text ≡ text
same_runs [] e = refl
same_runs (b ∷ rest) e = short_by b rest (is_spare b rest) refl (same_runs rest) e

none_counted : (n : ℕ) (change : TextChange) → listed (unless_none n change) ≡ [] → n ≡ 0
none_counted zero change e = refl
none_counted (suc n) change e = absurd (search (rules, e))

ends_by : (text : List ℕ) (is : Bool) → list_any (λ b. b == 10) text ≡ is → listed (ending text) ≡ [] → with_ends text ≡ text
ends_by text true h e = rw h (same_runs text (none_counted (long_ends text) _ (rw h at e)))
ends_by text false h e = rw h (same_ends text (none_counted (old_ends text) _ (rw h at e)))

uncut_by : (text : List ℕ) (is : Bool) → (length (uncut text) == length text) ≡ is → listed (cutting text) ≡ [] → uncut text ≡ text
uncut_by text true h e = whole text (search (rules, h))
uncut_by text false h e = absurd (search (rules, rw h at e))

ended_by : (text base : List ℕ) (is : Bool) → list_any (λ b. b == 0) (uncut text) ≡ is → uncut text ≡ text → listed (ending (uncut text)) ≡ [] → ended text ≡ Some base → base ≡ text
ended_by text base true h same e f = absurd (search (rules, rw h at f))
ended_by text base false h same e f =
    let told : listed (ending text) ≡ [] = rw same at e in
    let made : Some (with_ends (uncut text)) ≡ Some base = rw h at f in
    let ends : with_ends text ≡ text = ends_by text (list_any (λ b. b == 10) text) refl told in
    let is : with_ends (uncut text) ≡ base = search (rules, made) in
    sym is ∙ ap with_ends same ∙ ends

first_nil : (xs ys : List TextChange) → xs ++ ys ≡ [] → xs ≡ []
first_nil [] ys e = refl
first_nil (x ∷ xs) ys e = absurd (search (rules, e))

second_nil : (xs ys : List TextChange) → xs ++ ys ≡ [] → ys ≡ []
second_nil [] ys e = e
second_nil (x ∷ xs) ys e = absurd (search (rules, e))

some_letters : (letters base : List ℕ) → listed (cutting letters) ++ listed (ending (uncut letters)) ≡ [] → ended letters ≡ Some base → base ≡ letters
some_letters letters base told made =
    ended_by letters base (list_any (λ b. b == 0) (uncut letters)) refl
    (uncut_by letters (length (uncut letters) == length letters) refl (first_nil (listed (cutting letters)) (listed (ending (uncut letters))) told))
    (second_nil (listed (cutting letters)) (listed (ending (uncut letters))) told) made

these_letters : (letters : Option (List ℕ)) (text base : List ℕ) → letters ≡ Some text → letter_changes letters ≡ [] → ended_letters letters ≡ Some base → base ≡ text
these_letters None text base same told made = absurd (search (rules, same))
these_letters (Some letters) text base same told made =
    let is : letters ≡ text = search (rules, same) in
    some_letters letters base told made ∙ is

marked : (text : List ℕ) (is : Bool) → is_marked text ≡ is → listed (decoding text) ≡ [] → is ≡ false
marked text true h e = absurd (search (rules, h, e))
marked text false h e = refl

untold : (text base : List ℕ) → text_changes text ≡ [] → prepared text ≡ Some base → base ≡ text
unfolding text_changes prepared
untold text base e f =
    let none : is_marked text ≡ false = marked text (is_marked text) refl (first_nil (listed (decoding text)) (letter_changes (letters_of text)) e) in
    these_letters (letters_of text) text base (search (rules, none)) (second_nil (listed (decoding text)) (letter_changes (letters_of text)) e) f

nil : (changes : List TextChange) → length changes ≡ 0 → changes ≡ []
nil [] e = refl
nil (change ∷ changes) e = absurd (omega (arith, e))

-- what is read as lines is the text itself where nothing is told of its bytes
pub same_where_untold : (text base : List ℕ) (changes : List TextChange) → prepared text ≡ Some base → changes ≡ text_changes text → length changes ≡ 0 → base ≡ text
same_where_untold text base changes made told none = untold text base (sym told ∙ nil changes none) made
