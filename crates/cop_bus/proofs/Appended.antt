-- A trace with one step more.
use Rattle.std.proofs.Common.{◌≡◌, ℕ, ◌+◌, ◌-◌, ◌⊎◌, inl, inr, List, [], ◌∷◌, ◌++◌, length, refl, sym, ◌∙◌, ap, arith, suc, zero, Bool, true, cond, append_assoc}
use Rattle.std.specs.Prelude.{None, Some}
use Rattle.cop_bus.specs.declared.steps.Step.{Step}
use Rattle.cop_bus.specs.Trace.{count_to, nth_that, step_at, at_of, last_of, now_of}
use Rattle.cop_bus.specs.Judge.{last_event, event_or}
use Rattle.cop_bus.proofs.StepLemmas.{nth_that-skip, nth_that-take, bool_cases, same_some, one-true, one-false}
use Rattle.cop_bus.proofs.Grows.{last_event-more}

pub step_at-here : (xs : List Step) (x : Step) (ys : List Step) → step_at (xs ++ x ∷ ys) (length xs) ≡ x
step_at-here [] x ys = refl
step_at-here (z ∷ xs) x ys = step_at-here xs x ys

pub length-one : (xs : List Step) (x : Step) → length (xs ++ x ∷ []) ≡ suc (length xs)
length-one [] x = refl
length-one (z ∷ xs) x = ap suc (length-one xs x)

pub one-more : (xs : List Step) (x : Step) (ys : List Step) → (xs ++ x ∷ []) ++ ys ≡ xs ++ x ∷ ys
one-more xs x ys = append_assoc xs (x ∷ []) ys

pub last-one : (xs : List Step) (x : Step) → last_of (xs ++ x ∷ []) ≡ x
last-one xs x =
    let e : length (xs ++ x ∷ []) - 1 ≡ length xs = (let l = length-one xs x in omega arith) in
    ap (step_at (xs ++ x ∷ [])) e ∙ step_at-here xs x []

pub now-one : (xs : List Step) (x : Step) → now_of (xs ++ x ∷ []) ≡ at_of x
now-one xs x = ap at_of (last-one xs x)

pub count_to-here : (p : Step → Bool) (xs : List Step) (x : Step) (ys : List Step) → count_to p (xs ++ x ∷ ys) (suc (length xs)) ≡ count_to p xs (length xs) + cond (p x) 1 0
count_to-here p [] x [] = omega arith
count_to-here p [] x (y ∷ ys) = omega arith
count_to-here p (z ∷ xs) x ys = let h = count_to-here p xs x ys in omega (arith, h)

pub count_to-one : (p : Step → Bool) (xs : List Step) (x : Step) → count_to p (xs ++ x ∷ []) (length (xs ++ x ∷ [])) ≡ count_to p xs (length xs) + cond (p x) 1 0
count_to-one p xs x = ap (count_to p (xs ++ x ∷ [])) (length-one xs x) ∙ count_to-here p xs x []

pub last_event-here : (k : ℕ) (xs : List Step) (x : Step) (ys : List Step) → last_event k (xs ++ x ∷ ys) (suc (length xs)) ≡ event_or k x (last_event k xs (length xs))
last_event-here k xs x ys =
    ap (λ y. event_or k y (last_event k (xs ++ x ∷ ys) (length xs))) (step_at-here xs x ys) ∙ ap (event_or k x) (last_event-more k xs (x ∷ ys) (length xs) (omega arith))

-- what is found with one step more was found before, or is that step
pub nth_that-one : (p : Step → Bool) (xs : List Step) (x : Step) (j : ℕ) (y : Step) → nth_that p j (xs ++ x ∷ []) ≡ Some y →
    (nth_that p j xs ≡ Some y) ⊎ ((j ≡ count_to p xs (length xs)) × (y ≡ x) × (p x ≡ true))
nth_that-one p [] x zero y h = elim (bool_cases (p x)) [
  | inl t ↦ inr (refl, sym (same_some x y (sym (ap (λ b. cond b (Some x) None) t) ∙ h)), t)
  | inr f ↦ (let e : None ≡ Some y = sym (ap (λ b. cond b (Some x) None) f) ∙ h in absurd (cc))
]
nth_that-one p [] x (suc j) y h = elim (bool_cases (p x)) [
  | inl t ↦ (let e : None ≡ Some y = sym (nth_that-take p x [] j t) ∙ h in absurd (cc))
  | inr f ↦ (let e : None ≡ Some y = sym (nth_that-skip p x [] (suc j) f) ∙ h in absurd (cc))
]
nth_that-one p (z ∷ xs) x zero y h = elim (bool_cases (p z)) [
  | inl t ↦ inl (ap (λ b. cond b (Some z) (nth_that p zero xs)) t ∙ sym (ap (λ b. cond b (Some z) (nth_that p zero (xs ++ x ∷ []))) t) ∙ h)
  | inr f ↦ elim (nth_that-one p xs x zero y (sym (nth_that-skip p z (xs ++ x ∷ []) zero f) ∙ h)) [
    | inl a ↦ inl (nth_that-skip p z xs zero f ∙ a)
    | inr a ↦ inr ((let c = one-false (p z) f in omega (arith, a.0)), a.1, a.2)
  ]
]
nth_that-one p (z ∷ xs) x (suc j) y h = elim (bool_cases (p z)) [
  | inl t ↦ elim (nth_that-one p xs x j y (sym (nth_that-take p z (xs ++ x ∷ []) j t) ∙ h)) [
    | inl a ↦ inl (nth_that-take p z xs j t ∙ a)
    | inr a ↦ inr ((let c = one-true (p z) t in omega (arith, a.0)), a.1, a.2)
  ]
  | inr f ↦ elim (nth_that-one p xs x (suc j) y (sym (nth_that-skip p z (xs ++ x ∷ []) (suc j) f) ∙ h)) [
    | inl a ↦ inl (nth_that-skip p z xs (suc j) f ∙ a)
    | inr a ↦ inr ((let c = one-false (p z) f in omega (arith, a.0)), a.1, a.2)
  ]
]
