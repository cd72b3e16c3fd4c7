-- A flag that is set.
use Rattle.std.proofs.Common.{◌≡◌, ◌≢◌, ℕ, ◌<◌, ◌≤◌, ◌⊎◌, inl, inr, ◌==◌, ◌||◌, ◌&&◌, ◌+◌, not, max, zero, suc, if◌then◌else◌, Bool, true, false, List, length, get_or, set, refl, sym, ap, ◌∙◌, arith, zero-le}
use Rattle.std.proofs.lemmas.Bool.{cases_eq, eq-eqb, ne_eqb}
use Rattle.std.proofs.lemmas.List.{get_or-set_same, get_or-set_other}
use Rattle.std.proofs.lemmas.Option.{unwrap_or-slice_get}
use Rattle.cop_rta.specs.Test.{is_flagged}
use Rattle.cop_rta.specs.Sums.{sum_where, max_where}
use Rattle.cop_rta.specs.Placing.{is_unflagged}
use Rattle.cop_rta.proofs.PlaceEquations.{but, sum_but}

pub flag_set : (flags : List Bool) (own k : ℕ) → own < length flags → is_flagged (set flags own true) k ≡ ((own == k) || is_flagged flags k)
flag_set flags own k inside =
    unwrap_or-slice_get (set flags own true) k false ∙ go (cases_eq own k) ∙ ap (λ b. (own == k) || b) (sym (unwrap_or-slice_get flags k false))
  where
    go : (own ≡ k) ⊎ (own ≢ k) → get_or (set flags own true) k false ≡ ((own == k) || get_or flags k false)
    go (inl same) = rw (eq-eqb own k same, ← same) (get_or-set_same flags own true false inside)
    go (inr other) = rw (ne_eqb own k other) (get_or-set_other flags own k true false (λ e. other (sym e)))

-- the greatest of what passes a test, and one number more
pub longest_but_one : (p q : ℕ → Bool) (f : ℕ → ℕ) (own n : ℕ) → ((k : ℕ) → (k ≡ own → ⊥) → p k ≡ q k) → max_where p f n ≤ max (max_where q f n) (f own)
unfolding max_where
longest_but_one p q f own zero alike = zero-le
longest_but_one p q f own (suc n) alike = go (cases_eq n own) (longest_but_one p q f own n alike)
  where
    within : (b : Bool) (c : ℕ) → (if b then c else 0) ≤ c
    within true c = omega arith
    within false c = zero-le

    go : (n ≡ own) ⊎ (n ≡ own → ⊥) → max_where p f n ≤ max (max_where q f n) (f own)
        → max (max_where p f n) (if p n then f n else 0) ≤ max (max (max_where q f n) (if q n then f n else 0)) (f own)
    go (inl e) before =
        let here : f n ≡ f own = ap f e in
        omega (arith, before, here, within (p n) (f n))
    go (inr apart) before =
        let same : (if p n then f n else 0) ≡ (if q n then f n else 0) = ap (λ (b : Bool). if b then f n else 0) (alike n apart) in
        omega (arith, before, same)

module _ (flags : List Bool) (own : ℕ) (inside : own < length flags) where
  pub set_here : is_flagged (set flags own true) own ≡ true
  set_here = flag_set flags own own inside ∙ ap (λ b. b || is_flagged flags own) (eq-eqb own own refl)

  pub set_apart : (k : ℕ) → (k ≡ own → ⊥) → is_flagged (set flags own true) k ≡ is_flagged flags k
  set_apart k apart = flag_set flags own k inside ∙ ap (λ b. b || is_flagged flags k) (ne_eqb own k (λ e. apart (sym e)))

  module _ (off : is_flagged flags own ≡ false) where
    but_here : (k : ℕ) → but (is_flagged (set flags own true)) own k ≡ is_flagged flags k
    but_here k = go (cases_eq k own)
      where
        go : (k ≡ own) ⊎ (k ≡ own → ⊥) → (not (k == own) && is_flagged (set flags own true) k) ≡ is_flagged flags k
        go (inl e) = rw (e, eq-eqb own own refl, off) refl
        go (inr apart) = rw (ne_eqb k own apart) (set_apart k apart)

    -- a sum has one number more
    pub sum_more : (f : ℕ → ℕ) (n : ℕ) → own < n → sum_where (is_flagged (set flags own true)) f n ≡ sum_where (is_flagged flags) f n + f own
    sum_more f n within =
        let same : but (is_flagged (set flags own true)) own ≡ is_flagged flags = λ i k. but_here k i in
        sum_but (is_flagged (set flags own true)) f own n set_here within ∙ ap (λ (p : ℕ → Bool). sum_where p f n + f own) same

  -- and the greatest of the others is no less but for this one
  pub longest_less : (f : ℕ → ℕ) (n : ℕ) → max_where (is_unflagged flags) f n ≤ max (max_where (is_unflagged (set flags own true)) f n) (f own)
  longest_less f n =
      longest_but_one (is_unflagged flags) (is_unflagged (set flags own true)) f own n (λ k apart. ap (λ (b : Bool). not b) (sym (set_apart k apart)))
