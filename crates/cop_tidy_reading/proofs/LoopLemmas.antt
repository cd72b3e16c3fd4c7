-- A loop over a list: the element at its place, and those behind it.
use Rattle.std.proofs.Common.{◌≡◌, ℕ, Bool, false, ◌||◌, suc, ◌+◌, ◌<◌, ◌≤◌, List, [], ◌∷◌, length, map, drop, slice_index_or, Option, None, Result, Ok, sym, ap, ◌∙◌, arith, drop-cons}
use Rattle.std.specs.List.{list_any}
use Rattle.std.proofs.Math.ListN.{drop_of_length-le}
use Rattle.cop_tidy_reading.specs.declared.question.Question.{Question}
use Rattle.cop_tidy_reading.specs.Questions.{all_of, asked_after, checked, ◌>>=◌}
use Rattle.cop_tidy_reading.proofs.EarliestLemmas.{asked_all, checked_alone}

pub next_of : {A B : Type 0} (f : A → B) (xs : List A) (i : ℕ) (d : A) → i < length xs → map f (drop i xs) ≡ f (slice_index_or xs i d) ∷ map f (drop (i + 1) xs)
next_of f xs i d h = let e : i + 1 ≡ suc i = omega arith in rw e (ap (map f) (drop-cons xs i d h))

pub next_at : {A : Type 0} (xs : List A) (i : ℕ) (d : A) → i < length xs → drop i xs ≡ slice_index_or xs i d ∷ drop (i + 1) xs
next_at xs i d h = let e : i + 1 ≡ suc i = omega arith in rw e (drop-cons xs i d h)

pub none_at : {A : Type 0} (xs : List A) (i : ℕ) → length xs ≤ i → drop i xs ≡ []
none_at xs i h = drop_of_length-le xs h

-- what does not pass a test is passed over
pub any_next : {A : Type 0} (f : A → Bool) (xs : List A) (i : ℕ) (d : A) (whole : Bool) → i < length xs → f (slice_index_or xs i d) ≡ false → list_any f (drop i xs) ≡ whole →
    list_any f (drop (i + 1) xs) ≡ whole
any_next f xs i d whole lt e h =
    let more = list_any f (drop (i + 1) xs) in
    let g : (f (slice_index_or xs i d) || more) ≡ whole = sym (ap (list_any f) (next_at xs i d lt)) ∙ h in
    ap (λ (t : Bool). t || more) (sym e) ∙ g

pub none_of : {A B : Type 0} (f : A → B) (xs : List A) (i : ℕ) → length xs ≤ i → map f (drop i xs) ≡ []
none_of f xs i h = ap (map f) (drop_of_length-le xs h)

-- the question of the first reading and those of the readings behind it
pub asked_more : {A : Type 0} (e next : Option Question) (read : Result A Question) (more all : List (Result A Question)) (whole : Option Question) → next ≡ asked_after e read →
    all ≡ read ∷ more → asked_after e (all_of all) ≡ whole → asked_after next (all_of more) ≡ whole
asked_more e next read more all whole is g h = rw is (sym (asked_all e read more) ∙ sym (ap (λ xs. asked_after e (all_of xs)) g) ∙ h)

-- the questions of the first element and of those behind it
pub asked_next : {X A : Type 0} (e next : Option Question) (f : X → Result A Question) (x : X) (more all : List X) (whole : Option Question) → next ≡ asked_after e (f x) →
    all ≡ x ∷ more → asked_after e (all_of (map f all)) ≡ whole → asked_after next (all_of (map f more)) ≡ whole
asked_next e next f x more all whole is g h = rw is (sym (asked_all e (f x) (map f more)) ∙ sym (ap (λ xs. asked_after e (all_of (map f xs))) g) ∙ h)

-- the question of all, where none is left
pub asked_last : {X A : Type 0} (e : Option Question) (f : X → Result A Question) (all : List X) (whole : Result (List A) Question) → all ≡ [] →
    asked_after e (all_of (map f all)) ≡ asked_after None whole → checked e ≡ (whole >>= λ _. Ok tt)
unfolding all_of
asked_last e f all whole g h =
    let same : e ≡ asked_after None whole = ap (λ xs. asked_after e (all_of (map f xs))) (sym g) ∙ h in
    ap checked same ∙ checked_alone whole
