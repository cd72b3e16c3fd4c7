-- The earliest question of readings one after the other.
use Rattle.std.proofs.Common.{◌≡◌, ℕ, Bool, true, false, cond, List, ◌∷◌, Option, None, Some, Result, Ok, Err, refl, sym, ap, ◌∙◌, arith, nat_lt, ◌==◌, ◌||◌, ◌&&◌}
use Rattle.std.proofs.lemmas.Bool.Decides.{nat_tests}
use Rattle.cop_tidy_reading.specs.declared.question.Question.{Question}
use Rattle.cop_tidy_reading.specs.Questions.{number_of, is_behind, earlier, both, with_first, all_of, asked_behind, asked_after, checked, ◌>>=◌}

-- the order of two pairs of numbers
abbrev behind : ℕ → ℕ → ℕ → ℕ → Bool
behind a m b n = nat_lt b a || ((b == a) && nat_lt n m)

-- what is not behind in two steps is not behind in one
steps_back : (a m b n c k : ℕ) → behind a m b n ≡ false → behind b n c k ≡ false → behind a m c k ≡ false
steps_back a m b n c k e f = grind (arith, nat_tests)

-- what lies behind in two steps lies behind in one
steps_on : (a m b n c k : ℕ) → behind a m b n ≡ true → behind b n c k ≡ true → behind a m c k ≡ true
steps_on a m b n c k e f = grind (arith, nat_tests)

by_tests : (a b c : Question) (s t u : Bool) → is_behind a b ≡ s → is_behind b c ≡ t → is_behind a c ≡ u
    → earlier (earlier a b) c ≡ earlier a (earlier b c)
by_tests a b c true true u e f g =
    rw (e, f, steps_on a.line (number_of a.about) b.line (number_of b.about) c.line (number_of c.about) e f) refl
by_tests a b c true false u e f g = rw (e, f, e) refl
by_tests a b c false true u e f g = rw (e, f) refl
by_tests a b c false false u e f g =
    rw (e, f, e, steps_back a.line (number_of a.about) b.line (number_of b.about) c.line (number_of c.about) e f) refl

-- of three questions the earliest is one, in whichever steps
pub earlier_assoc : (a b c : Question) → earlier (earlier a b) c ≡ earlier a (earlier b c)
earlier_assoc a b c = by_tests a b c (is_behind a b) (is_behind b c) (is_behind a c) refl refl refl

pub asked_twice : (e : Option Question) (q r : Question) → asked_behind e (earlier q r) ≡ asked_behind (Some (asked_behind e q)) r
asked_twice None q r = refl
asked_twice (Some p) q r = sym (earlier_assoc p q r)

-- two readings side by side ask what they ask one after the other
pub asked_both : {A B : Type 0} (e : Option Question) (a : Result A Question) (b : Result B Question) →
    asked_after e (both a b) ≡ asked_after (asked_after e a) b
unfolding both
asked_both e (Ok a) (Ok b) = refl
asked_both e (Ok a) (Err q) = refl
asked_both e (Err q) (Ok b) = refl
asked_both e (Err q) (Err r) = ap Some (asked_twice e q r)

first_asks : {A : Type 0} (e : Option Question) (read : Result (A × List A) Question) → asked_after e (with_first read) ≡ asked_after e read
first_asks e (Ok pair) = refl
first_asks e (Err q) = refl

-- all readings of a list ask what the first and the others ask
pub asked_all : {A : Type 0} (e : Option Question) (read : Result A Question) (reads : List (Result A Question)) →
    asked_after e (all_of (read ∷ reads)) ≡ asked_after (asked_after e read) (all_of reads)
unfolding all_of
asked_all e read reads = first_asks e (both read (all_of reads)) ∙ asked_both e read (all_of reads)

-- what is made of a reading asks nothing more
pub asked_made : {A B : Type 0} (e : Option Question) (f : A → B) (read : Result A Question) →
    asked_after e (read >>= λ x. Ok (f x)) ≡ asked_after e read
asked_made e f (Ok x) = refl
asked_made e f (Err q) = refl

-- the question that is asked first of all is that of the readings
pub checked_alone : {A : Type 0} (read : Result A Question) → checked (asked_after None read) ≡ (read >>= λ _. Ok tt)
checked_alone (Ok x) = refl
checked_alone (Err q) = refl
