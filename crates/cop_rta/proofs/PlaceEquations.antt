-- The equations of a flagged stream, by sums over all that are flagged.
use Rattle.std.proofs.Common.{◌≡◌, ℕ, zero, suc, ◌+◌, ◌<◌, ◌≤◌, ◌⊎◌, inl, inr, Bool, true, false, not, ◌&&◌, ◌==◌, if◌then◌else◌, length, refl, ap, arith}
use Rattle.std.proofs.lemmas.Bool.{cases_eq, eq-eqb, ne_eqb}
use Rattle.cop_rta.specs.Sums.{sum_where, max_where}
use Rattle.cop_rta.specs.Test.{is_flagged, is_below, of_stream, cost_of, load_of, ahead_of, blocking, interference, busy_at}
use Rattle.cop_rta.specs.Placing.{Flags, place_in, is_unflagged, longest_of, busy_of}

-- all that pass but one
abbrev pub but : (ℕ → Bool) → ℕ → ℕ → Bool
but p own k = not (k == own) && p k

one_apart : (p : ℕ → Bool) (own k : ℕ) → (k ≡ own → ⊥) → but p own k ≡ p k
one_apart p own k apart = rw (ne_eqb k own apart) refl

one_own : (p : ℕ → Bool) (own k : ℕ) → k ≡ own → but p own k ≡ false
one_own p own k same = rw (eq-eqb k own same) refl

sum_before : (p : ℕ → Bool) (f : ℕ → ℕ) (own n : ℕ) → n ≤ own → sum_where p f n ≡ sum_where (but p own) f n
unfolding sum_where
sum_before p f own zero h = refl
sum_before p f own (suc n) h =
    let apart : n ≡ own → ⊥ = λ e. omega arith in
    rw (one_apart p own n apart, sum_before p f own n (omega arith)) refl

-- a sum with one that passes and without
pub sum_but : (p : ℕ → Bool) (f : ℕ → ℕ) (own n : ℕ) → p own ≡ true → own < n → sum_where p f n ≡ sum_where (but p own) f n + f own
unfolding sum_where
sum_but p f own zero yes_own lt = absurd (omega arith)
sum_but p f own (suc n) yes_own lt = go (cases_eq n own) (λ low. sum_but p f own n yes_own low)
  where
    go : (n ≡ own) ⊎ (n ≡ own → ⊥) → (own < n → sum_where p f n ≡ sum_where (but p own) f n + f own)
        → sum_where p f n + (if p n then f n else 0) ≡ sum_where (but p own) f n + (if but p own n then f n else 0) + f own
    go (inl e) before =
        let own_too : p n ≡ true = rw e yes_own in
        let low : sum_where p f n ≡ sum_where (but p own) f n = sum_before p f own n (omega (arith, e)) in
        let own_f : f n ≡ f own = ap f e in
        let mine : (if p n then f n else 0) ≡ f n = rw own_too refl in
        let none : (if but p own n then f n else 0) ≡ 0 = rw (one_own p own n e) refl in
        omega (arith, low, own_f, mine, none)
    go (inr apart) before =
        let low : sum_where p f n ≡ sum_where (but p own) f n + f own = before (omega (arith, apart, lt)) in
        let alike : (if but p own n then f n else 0) ≡ (if p n then f n else 0) = rw (one_apart p own n apart) refl in
        omega (arith, low, alike)

-- ---- one flagged stream

module _ (v : Flags) (own : ℕ) (inside : own < length v.streams) (flag : is_flagged v.flags own ≡ true) where
  below_alike : (k : ℕ) → is_below (place_in v own) k ≡ is_unflagged v.flags k
  below_alike k = go (cases_eq k own)
    where
      go : (k ≡ own) ⊎ (k ≡ own → ⊥) → (not (k == own) && not (is_flagged v.flags k)) ≡ not (is_flagged v.flags k)
      go (inl e) = rw (e, eq-eqb own own refl, flag) refl
      go (inr apart) = rw (ne_eqb k own apart) refl

  pub blocking_is : blocking (place_in v own) ≡ longest_of v
  blocking_is =
      let same : is_below (place_in v own) ≡ is_unflagged v.flags = λ i k. below_alike k i in
      ap (λ (test : ℕ → Bool). max_where test (of_stream (cost_of v.rate) v.streams) (length v.streams)) same

  pub interference_is : (x : ℕ) → sum_where (is_flagged v.flags) (of_stream (load_of v.rate (ahead_of v.streams v.rate) x) v.streams) (length v.streams) ≡ interference (place_in v own) x + of_stream (load_of v.rate (ahead_of v.streams v.rate) x) v.streams own
  interference_is x = sum_but (is_flagged v.flags) (of_stream (load_of v.rate (ahead_of v.streams v.rate) x) v.streams) own (length v.streams) flag inside

  pub busy_is : (t : ℕ) → busy_at (place_in v own) t ≡ busy_of v t
  unfolding busy_at busy_of
  busy_is t = rw (interference_is t) (omega (arith, blocking_is))

  -- so there is one busy equation for all that are flagged
  pub equations : busy_at (place_in v own) ≡ busy_of v
  equations = λ i t. busy_is t i
