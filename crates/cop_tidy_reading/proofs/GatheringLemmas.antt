-- What is gathered of readings one after the other.
use Rattle.std.proofs.Common.{◌≡◌, ℕ, ◌+◌, ◌<◌, length, drop, slice_index_or, Bool, true, false, cond, List, [], ◌∷◌, ◌++◌, map, Option, None, Some, Result, Ok, Err, refl, sym, ap, ◌∙◌}
use Rattle.std.proofs.lemmas.List.{append_assoc, append-nil, at_drop_more}
use Rattle.std.specs.List.{flat_map, filter}
use Rattle.cop_tidy_reading.specs.declared.question.Question.{Question}
use Rattle.cop_tidy_reading.specs.Questions.{earlier, both, with_first, all_of, asked_after, checked}
use Rattle.cop_tidy_reading.specs.Gathering.{joined_by, with_found, gathered, all_clear}
use Rattle.cop_tidy_reading.specs.declared.items.Item.{Item}
use Rattle.cop_tidy_reading.specs.Items.{Said}
use Rattle.cop_tidy_reading.specs.Seen.{said_of}
use Rattle.cop_tidy_reading.specs.Sections.{is_pair}
use Rattle.cop_tidy_reading.specs.Objects.{check_value}
use Rattle.cop_tidy_reading.proofs.EarliestLemmas.{earlier_assoc, asked_all, checked_alone}

by_next : {A B : Type 0} (view : A → List B) (e : Option Question) (found : List B) (read : Result A Question) (rest : Result (List A) Question) →
    gathered e found (joined_by view (with_first (both read rest))) ≡ gathered (asked_after e read) (with_found view found read) (joined_by view rest)
unfolding both
by_next view None found (Ok a) (Ok more) = ap Ok (sym (append_assoc found (view a) (flat_map view more)))
by_next view None found (Ok a) (Err q) = refl
by_next view None found (Err q) (Ok more) = refl
by_next view None found (Err q) (Err r) = refl
by_next view (Some p) found (Ok a) (Ok more) = refl
by_next view (Some p) found (Ok a) (Err q) = refl
by_next view (Some p) found (Err q) (Ok more) = refl
by_next view (Some p) found (Err q) (Err r) = ap Err (sym (earlier_assoc p q r))

-- what readings find beside what was found is what is found with the first of them, and what the others find
pub next_gathered : {A B : Type 0} (view : A → List B) (e : Option Question) (found : List B) (read : Result A Question) (reads : List (Result A Question)) →
    gathered e found (joined_by view (all_of (read ∷ reads))) ≡ gathered (asked_after e read) (with_found view found read) (joined_by view (all_of reads))
unfolding all_of
next_gathered view e found read reads = by_next view e found read (all_of reads)

-- where nothing was found and nothing asked, all is what readings find
pub begins : {B : Type 0} (rest : Result (List B) Question) → gathered None [] rest ≡ rest
begins (Ok more) = refl
begins (Err q) = refl

-- nothing is read any more
pub none_further : {B : Type 0} (e : Option Question) (found : List B) → checked e ≡ Ok tt → gathered e found (Ok []) ≡ Ok found
none_further None found is = ap Ok (append-nil found)
none_further (Some q) found is = cc

pub asked_further : {B : Type 0} (e : Option Question) (found : List B) (q : Question) → checked e ≡ Err q → gathered e found (Ok []) ≡ Err q
asked_further None found q is = cc
asked_further (Some r) found q is = cc

-- ---- readings that find nothing

among : {A : Type 0} (f : A → Result (Unit {0}) Question) (t : Bool) (e : Option Question) (x : A) (xs : List A) →
    asked_after e (all_of (map f (cond t (x ∷ xs) xs))) ≡ asked_after (asked_after e (cond t (f x) (Ok tt))) (all_of (map f xs))
among f true e x xs = asked_all e (f x) (map f xs)
among f false e x xs = refl

-- what keys ask is what the first line asks, where it is a key, and the others
pub next_among : (compact : ℕ) (e : Option Question) (x : Said) (xs : List Said) →
    asked_after e (all_of (map (check_value compact) (filter (λ said. is_pair said.kind) (x ∷ xs))))
    ≡ asked_after (asked_after e (cond (is_pair x.kind) (check_value compact x) (Ok tt))) (all_of (map (check_value compact) (filter (λ said. is_pair said.kind) xs)))
next_among compact e x xs = among (check_value compact) (is_pair x.kind) e x (filter (λ said. is_pair said.kind) xs)

-- the earliest question of all
pub all_asked : (e : Option Question) (reads : List (Result (Unit {0}) Question)) → e ≡ asked_after None (all_of reads) → checked e ≡ all_clear reads
all_asked e reads is = ap checked is ∙ checked_alone (all_of reads)

-- the same at a place of a list
pub next_at : {A B C : Type 0} (view : A → List B) (f : C → Result A Question) (e : Option Question) (found : List B) (xs : List C) (i : ℕ) (d : C) → i < length xs →
    gathered e found (joined_by view (all_of (map f (drop i xs))))
    ≡ gathered (asked_after e (f (slice_index_or xs i d))) (with_found view found (f (slice_index_or xs i d))) (joined_by view (all_of (map f (drop (i + 1) xs))))
next_at view f e found xs i d lt =
    at_drop_more (λ ys. gathered e found (joined_by view (all_of (map f ys)))) xs i d lt
    ∙ next_gathered view e found (f (slice_index_or xs i d)) (map f (drop (i + 1) xs))

pub next_among_at : (compact : ℕ) (e : Option Question) (part : List Item) (i : ℕ) (d : Item) → i < length part →
    asked_after e (all_of (map (check_value compact) (filter (λ said. is_pair said.kind) (map said_of (drop i part)))))
    ≡ asked_after (asked_after e (cond (is_pair (slice_index_or part i d).kind) (check_value compact (said_of (slice_index_or part i d))) (Ok tt)))
    (all_of (map (check_value compact) (filter (λ said. is_pair said.kind) (map said_of (drop (i + 1) part)))))
next_among_at compact e part i d lt =
    at_drop_more (λ (ys : List Item). asked_after e (all_of (map (check_value compact) (filter (λ said. is_pair said.kind) (map said_of ys))))) part i d lt
    ∙ next_among compact e (said_of (slice_index_or part i d)) (map said_of (drop (i + 1) part))
