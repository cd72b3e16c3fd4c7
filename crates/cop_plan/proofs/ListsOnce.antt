-- Lists that rise and have the same members are the same.
use Rattle.std.proofs.Common.{◌≡◌, ℕ, zero, suc, ◌<◌, ◌⊎◌, inl, inr, true, false, List, [], ◌∷◌, All, AllPairs, Any, refl, sym, ap, ◌∙◌, subst, arith}
use Rattle.cop_frame.specs.declared.rates.Rate.{Rate}
use Rattle.cop_frame.specs.Rate.{kbits_of}
use Rattle.cop_cert.specs.declared.refusals.Refusal.{Refusal}
use Rattle.cop_cert.specs.Evidence.{is_listed}
use Rattle.cop_plan.proofs.FillingLemmas.{no_bit, among_head, among_tail, among_cases}

-- ---- numbers

abbrev Rise : List ℕ → Type 0
Rise xs = AllPairs (λ m n. m < n) xs

-- what all numbers of a list have, each that is listed has
pub listed_has : (P : ℕ → Type 0) (xs : List ℕ) (k : ℕ) → All P xs → is_listed xs k ≡ true → P k
listed_has P [] k all h = absurd (no_bit false h refl)
listed_has P (x ∷ xs) k all h = go (listed_has P xs k (λ i d low. all (suc i) d (omega (arith, low)))) (among_cases x k xs h) where
  go : (is_listed xs k ≡ true → P k) → (x ≡ k) ⊎ (is_listed xs k ≡ true) → P k
  go after (inl e) = subst P e (all 0 x (omega arith))
  go after (inr later) = after later

module _ (x : ℕ) (xs : List ℕ) (rise : Rise (x ∷ xs)) where
  rest_rises : Rise xs
  rest_rises i j d lt low = rise (suc i) (suc j) d (omega (arith, lt)) (omega (arith, low))

  first_below : (k : ℕ) → is_listed xs k ≡ true → x < k
  first_below k h = listed_has (λ n. x < n) xs k (λ i d low. rise 0 (suc i) d (omega arith) (omega (arith, low))) h

heads_meet : (x y : ℕ) → (y ≡ x) ⊎ (y < x) → (x ≡ y) ⊎ (x < y) → x ≡ y
heads_meet x y (inl e) b = sym e
heads_meet x y (inr lt) (inl e) = e
heads_meet x y (inr lt) (inr gt) = absurd (omega (arith, lt, gt))

-- a listed number is the first or above it
reached : (m n : ℕ) (ns : List ℕ) → Rise (n ∷ ns) → (n ≡ m) ⊎ (is_listed ns m ≡ true) → (n ≡ m) ⊎ (n < m)
reached m n ns rise (inl e) = inl e
reached m n ns rise (inr h) = inr (first_below n ns rise m h)

-- a listed number above the first comes later
later : (k m : ℕ) (ns : List ℕ) → m < k → (m ≡ k) ⊎ (is_listed ns k ≡ true) → is_listed ns k ≡ true
later k m ns lt (inl same) = absurd (omega (arith, lt, same))
later k m ns lt (inr h) = h

pub numbers_once : (xs ys : List ℕ) → Rise xs → Rise ys → ((k : ℕ) → is_listed xs k ≡ true → is_listed ys k ≡ true) → ((k : ℕ) → is_listed ys k ≡ true → is_listed xs k ≡ true) → xs ≡ ys
numbers_once [] [] a b there back = refl
numbers_once [] (y ∷ ys) a b there back = absurd (no_bit false (back y (among_head y ys)) refl)
numbers_once (x ∷ xs) [] a b there back = absurd (no_bit false (there x (among_head x xs)) refl)
numbers_once (x ∷ xs) (y ∷ ys) a b there back =
    let e : x ≡ y = heads_meet x y (reached x y ys b (among_cases y x ys (there x (among_head x xs)))) (reached y x xs a (among_cases x y xs (back y (among_head y ys)))) in
    let rest : xs ≡ ys = numbers_once xs ys (rest_rises x xs a) (rest_rises y ys b)
    (λ k h. later k y ys (omega (arith, e, first_below x xs a k h)) (among_cases y k ys (there k (among_tail x k xs h))))
    (λ k h. later k x xs (omega (arith, e, first_below y ys b k h)) (among_cases x k xs (back k (among_tail y k ys h)))) in
    rw (e, rest) refl

-- ---- refusals, by their rates

abbrev RatesRise : List Refusal → Type 0
RatesRise rs = AllPairs (λ r s. kbits_of r.rate < kbits_of s.rate) rs

abbrev pub HasRate : List Refusal → Rate → Type 0
HasRate rs rate = Any (λ r. r.rate ≡ rate) rs

rate_of_first : (r : Refusal) (rs : List Refusal) → HasRate (r ∷ rs) r.rate
rate_of_first r rs = (0, r, omega arith, refl, refl)

rate_later : (r : Refusal) (rs : List Refusal) (rate : Rate) → HasRate rs rate → HasRate (r ∷ rs) rate
rate_later r rs rate (k, s, low, here, same) = (suc k, s, omega (arith, low), here, same)

rate_cases : (r : Refusal) (rs : List Refusal) (rate : Rate) → HasRate (r ∷ rs) rate → (r.rate ≡ rate) ⊎ HasRate rs rate
rate_cases r rs rate (zero, s, low, here, same) = inl (ap (λ (t : Refusal). t.rate) here ∙ same)
rate_cases r rs rate (suc k, s, low, here, same) = inr (k, s, omega (arith, low), here, same)

-- what all refusals have, there is one of each rate that has it
pub rate_has : (P : Rate → Type 0) (rs : List Refusal) (rate : Rate) → All (λ r. P r.rate) rs → HasRate rs rate → P rate
rate_has P rs rate all (k, s, low, here, same) =
    subst P (ap (λ (t : Refusal). t.rate) here ∙ same) (all k s low)

module _ (r : Refusal) (rs : List Refusal) (rise : RatesRise (r ∷ rs)) where
  other_rates_rise : RatesRise rs
  other_rates_rise i j d lt low = rise (suc i) (suc j) d (omega (arith, lt)) (omega (arith, low))

  first_is_slower : (rate : Rate) → HasRate rs rate → kbits_of r.rate < kbits_of rate
  first_is_slower rate h = rate_has (λ q. kbits_of r.rate < kbits_of q) rs rate (λ i d low. rise 0 (suc i) d (omega arith) (omega (arith, low))) h

rates_meet : (a b : Rate) → (b ≡ a) ⊎ (kbits_of b < kbits_of a) → (a ≡ b) ⊎ (kbits_of a < kbits_of b) → a ≡ b
rates_meet a b (inl e) h = sym e
rates_meet a b (inr lt) (inl e) = e
rates_meet a b (inr lt) (inr gt) = absurd (omega (arith, lt, gt))

-- the rate of a refusal among some is that of the first or above it
rate_reached : (rate : Rate) (t : Refusal) (ts : List Refusal) → RatesRise (t ∷ ts) → (t.rate ≡ rate) ⊎ HasRate ts rate → (t.rate ≡ rate) ⊎ (kbits_of t.rate < kbits_of rate)
rate_reached rate t ts rise (inl e) = inl e
rate_reached rate t ts rise (inr h) = inr (first_is_slower t ts rise rate h)

-- a rate above that of the first comes later
among_later : (rate : Rate) (t : Refusal) (ts : List Refusal) → kbits_of t.rate < kbits_of rate → (t.rate ≡ rate) ⊎ HasRate ts rate → HasRate ts rate
among_later rate t ts lt (inl same) = absurd (omega (arith, lt, ap kbits_of same))
among_later rate t ts lt (inr h) = h

module _ (P : Refusal → Type 0) (once : (r s : Refusal) → P r → P s → r.rate ≡ s.rate → r ≡ s) where
  pub refusals_once : (rs ss : List Refusal) → RatesRise rs → RatesRise ss → All P rs → All P ss
      → ((rate : Rate) → HasRate rs rate → HasRate ss rate) → ((rate : Rate) → HasRate ss rate → HasRate rs rate) → rs ≡ ss
  refusals_once [] [] a b p q there back = refl
  refusals_once [] (s ∷ ss) a b p q there back = let bad = (back s.rate (rate_of_first s ss)).2 in absurd (omega (arith, bad))
  refusals_once (r ∷ rs) [] a b p q there back = let bad = (there r.rate (rate_of_first r rs)).2 in absurd (omega (arith, bad))
  refusals_once (r ∷ rs) (s ∷ ss) a b p q there back =
      let e : r.rate ≡ s.rate = rates_meet r.rate s.rate
      (rate_reached r.rate s ss b (rate_cases s ss r.rate (there r.rate (rate_of_first r rs))))
      (rate_reached s.rate r rs a (rate_cases r rs s.rate (back s.rate (rate_of_first s ss)))) in
      let rest : rs ≡ ss = refusals_once rs ss (other_rates_rise r rs a) (other_rates_rise s ss b)
      (λ i d low. p (suc i) d (omega (arith, low))) (λ i d low. q (suc i) d (omega (arith, low)))
      (λ rate h. among_later rate s ss (omega (arith, ap kbits_of e, first_is_slower r rs a rate h)) (rate_cases s ss rate (there rate (rate_later r rs rate h))))
      (λ rate h. among_later rate r rs (omega (arith, ap kbits_of e, first_is_slower s ss b rate h)) (rate_cases r rs rate (back rate (rate_later s ss rate h)))) in
      rw (once r s (p 0 r (omega arith)) (q 0 s (omega arith)) e, rest) refl
