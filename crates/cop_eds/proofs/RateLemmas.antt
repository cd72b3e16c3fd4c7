-- The rates found so far, and one more.
use Rattle.std.proofs.Common.{◌≡◌, ◌↔◌, ◌⊎◌, ◌≤◌, inl, inr, ⊎_elim, ℕ, zero, suc, ◌+◌, ◌<◌, Bool, true, List, [], ◌∷◌, ◌++◌, take, get_or, length, Contains, Result, Ok, refl, sym, ap, subst, ◌∙◌, arith, lit<, zero-lt-suc}
use Rattle.std.proofs.lemmas.List.{take_more, take_all}
use Rattle.std.proofs.lemmas.List.Elements.{Contains-append_cases, Contains-append_left, Contains-append_right}
use Rattle.cop_frame.specs.declared.rates.Rate.{Rate}
use Rattle.cop_frame.specs.declared.rates.Rate.TheVariants.{Kbit10, Kbit20, Kbit50, Kbit125, Kbit250, Kbit500, Kbit800, Kbit1000}
use Rattle.cop_frame.specs.RateSet.{all_rates}

only : {X : Type 0} (x y : X) → Contains (x ∷ []) y → y ≡ x
only x y (zero, lt, e) = sym e
only x y (suc k, lt, e) = absurd (omega arith)

single : {X : Type 0} (x y : X) → y ≡ x → Contains (x ∷ []) y
single x y e = (0, zero-lt-suc _, sym e)

pub put : {C O E : Type 0} {b : Bool} → b ≡ true → C ↔ (O ⊎ E) → C ↔ (O ⊎ (E × (b ≡ true)))
put flag e = (λ h. ⊎_elim (λ o. inl o) (λ i. inr (i, flag)) (e.0 h), λ h. ⊎_elim (λ o. e.1 (inl o)) (λ i. e.1 (inr i.0)) h)

same_flag : {E : Type 0} {b : Bool} → (let e : Result Bool E = Ok b in e) ≡ Ok true → b ≡ true
same_flag e = cc

-- those among the first so many that pass, and the next
pub found_more : {E : Type 0} (f : Rate → Result Bool E) (xs : List Rate) (i : ℕ) (d : Rate) (b : Bool) (old new : List Rate)
    → i < length xs → f (get_or xs i d) ≡ Ok b
    → ((r : Rate) → Contains old r ↔ (Contains (take i xs) r × (f r ≡ Ok true)))
    → ((r : Rate) → Contains new r ↔ (Contains old r ⊎ ((r ≡ get_or xs i d) × (b ≡ true))))
    → (r : Rate) → Contains new r ↔ (Contains (take (i + 1) xs) r × (f r ≡ Ok true))
found_more f xs i d b old new lt gives before after r =
    let x = get_or xs i d in
    let more : take (i + 1) xs ≡ take i xs ++ x ∷ [] = take_more xs i d lt in (
      λ h. ⊎_elim
          (λ o. let p = (before r).0 o in (subst (λ ys. Contains ys r) (sym more) (Contains-append_left (take i xs) (x ∷ []) r p.0), p.1))
          (λ e. (subst (λ ys. Contains ys r) (sym more) (Contains-append_right (take i xs) (x ∷ []) r (single x r e.0)), ap f e.0 ∙ gives ∙ ap Ok e.1))
          ((after r).0 h),
      λ h. ⊎_elim
          (λ o. (after r).1 (inl ((before r).1 (o, h.1))))
          (λ s. let e = only x r s in (after r).1 (inr (e, same_flag (sym gives ∙ ap f (sym e) ∙ h.1))))
          (Contains-append_cases (take i xs) (x ∷ []) r (subst (λ ys. Contains ys r) more h.0)),
    )

pub all_contain : (r : Rate) → Contains all_rates r
all_contain Kbit10 = (0, lit< tt, refl)
all_contain Kbit20 = (1, lit< tt, refl)
all_contain Kbit50 = (2, lit< tt, refl)
all_contain Kbit125 = (3, lit< tt, refl)
all_contain Kbit250 = (4, lit< tt, refl)
all_contain Kbit500 = (5, lit< tt, refl)
all_contain Kbit800 = (6, lit< tt, refl)
all_contain Kbit1000 = (7, lit< tt, refl)

-- after the last of them
pub all_found : {E : Type 0} (f : Rate → Result Bool E) (i : ℕ) (rates : List Rate) → 8 ≤ i
    → ((r : Rate) → Contains rates r ↔ (Contains (take i all_rates) r × (f r ≡ Ok true)))
    → (r : Rate) → Contains rates r ↔ (f r ≡ Ok true)
all_found f i rates le found r =
    let all : take i all_rates ≡ all_rates = take_all i all_rates le in
    (λ h. ((found r).0 h).1, λ e. (found r).1 (subst (λ xs. Contains xs r) (sym all) (all_contain r), e))

pub twice : {C A B : Type 0} → C ↔ (A × A) → A ↔ B → C ↔ B
twice e f = (λ c. f.0 (e.0 c).0, λ b. let a = f.1 b in e.1 (a, a))
