-- One order over both ranges at most: the PDOs of the first range are the same, and from the lowest place up each place has the same PDO.
use Rattle.std.proofs.Common.{◌≡◌, ◌≢◌, ℕ, zero, suc, ◌+◌, ◌-◌, ◌<◌, ◌≤◌, ◌⊎◌, inl, inr, Bool, true, false, nat_lt, nat_le, if◌then◌else◌, List, length, refl, sym, ap, ◌∙◌, subst, arith, leb-true}
use Rattle.std.proofs.lemmas.Bool.{cases_order, cases_Bool, cases_lt, lt-leb}
use Rattle.cop_frame.specs.declared.rates.Rate.{Rate}
use Rattle.cop_rta.specs.declared.streams.Stream.{Stream}
use Rattle.cop_rta.proofs.MoreAbove.{passes_under_fewer}
use Rattle.cop_cert.specs.Assignments.{is_lower}
use Rattle.cop_rta.specs.Ranges.{second_range}
use Rattle.cop_cert.specs.Causes.{kept}
use Rattle.cop_cert.specs.Sets.{trial, IsGreatestStuckSet}
use Rattle.cop_cert.proofs.AboveLemmas.{set_within_ids}
use Rattle.cop_plan.specs.Orders.{from_place, FramesPass, IsUpper, least_of_part, is_part, IsOrderOf, IsPlanOrder}
use Rattle.cop_plan.proofs.RangePassLemmas.{number_most}
use Rattle.cop_plan.proofs.StuckLemmas.{greatest_is_one}

not_up : (a b : ℕ) → (a ≡ b → ⊥) → (b < a → ⊥) → a < b
not_up a b h i = omega arith

least_most : (upper : Bool) → least_of_part upper ≤ 0x680
least_most true = omega arith
least_most false = omega arith

module _ (rate : Rate) (streams : List Stream) (pdos : ℕ) (count : pdos ≤ length streams) (up : ℕ → Bool) where
  -- the places from `from` on are the same
  abbrev SameFrom : (ℕ → ℕ) → (ℕ → ℕ) → ℕ → Type 0
  SameFrom ids others from = (p : ℕ) → p < pdos → (from ≤ ids p) ⊎ (from ≤ others p) → ids p ≡ others p

  -- a later row r cannot have, in the other order, the place that p has here
  apart : (ids others : ℕ → ℕ) → IsOrderOf rate streams pdos up ids → IsOrderOf rate streams pdos up others → (p r : ℕ) → p < pdos → r < pdos → up r ≡ up p → ids p ≡ others r
      → SameFrom ids others (suc (ids p)) → p < r → ⊥
  apart ids others a b p r inside_p inside_r part same_place same later =
      a.later p r inside_p inside_r part later above
      (passes_under_fewer (trial (least_of_part (up p)) rate streams pdos (from_place ids p) r) (is_lower streams pdos others r) (omega (arith, inside_r, count))
      (set_within_ids rate streams pdos (least_of_part (up p)) (from_place ids p) others r inside_r (rw part at (b.low r inside_r)) each)
      (b.passes.each r inside_r))
    where
      above : ids r < ids p
      above = not_up (ids r) (ids p)
          (λ e. let e' : r ≡ p = a.distinct r p inside_r inside_p e in omega arith)
          (λ higher. let e : ids r ≡ others r = same r inside_r (inl higher) in omega arith)

      each : (k : ℕ) → k < pdos → k ≢ r → from_place ids p k ≡ true → others k < others r
      each k inside other h = not_up (others k) (others r)
          (λ e. other (b.distinct k r inside inside_r e))
          (λ higher. let e : ids k ≡ others k = same k inside (inr (omega arith)) in
          let low : ids k ≤ ids p = leb-true (ids k) (ids p) h in
          omega arith)

  -- two orders agree at the place x if they agree below it
  agree_at : (ids others : ℕ → ℕ) → IsOrderOf rate streams pdos up ids → IsOrderOf rate streams pdos up others → (p r : ℕ) → p < pdos → r < pdos → up r ≡ up p → ids p ≡ others r
      → SameFrom ids others (suc (ids p)) → p ≡ r
  agree_at ids others a b p r inside_p inside_r part same_place same = go (cases_order p r)
    where
      turned : SameFrom others ids (suc (others r))
      turned k h (inl higher) = sym (same k h (inr (omega arith)))
      turned k h (inr higher) = sym (same k h (inl (omega arith)))

      go : (p ≡ r) ⊎ ((p < r) ⊎ (r < p)) → p ≡ r
      go (inl e) = e
      go (inr (inl lt)) = absurd (apart ids others a b p r inside_p inside_r part same_place same lt)
      go (inr (inr gt)) = absurd (apart others ids b a r p inside_r inside_p (sym part) (sym same_place) turned gt)

  at_place : (ids others : ℕ → ℕ) → IsOrderOf rate streams pdos up ids → IsOrderOf rate streams pdos up others → (x : ℕ) → SameFrom ids others (suc x) → (p : ℕ) → p < pdos → x ≤ ids p → ids p ≡ others p
  at_place ids others a b x same p h high = go (cases_order (ids p) x)
    where
      other_one : (r : ℕ) × (r < pdos) × (up r ≡ up p) × (others r ≡ least_of_part (up p) + (ids p - least_of_part (up p)))
      other_one = b.full p h (ids p - least_of_part (up p)) (omega (arith, a.low p h, a.high p h))

      go : (ids p ≡ x) ⊎ ((ids p < x) ⊎ (x < ids p)) → ids p ≡ others p
      go (inl e) =
          let r : ℕ = other_one.0 in
          let place : others r ≡ ids p = omega (arith, other_one.3, a.low p h) in
          let one : p ≡ r = agree_at ids others a b p r h other_one.1 other_one.2 (sym place) (rw e same) in
          sym (rw (← one) at place)
      go (inr (inl lt)) = absurd (omega arith)
      go (inr (inr gt)) = same p h (inl gt)

  turn : (ids others : ℕ → ℕ) (x : ℕ) → SameFrom ids others x → SameFrom others ids x
  turn ids others x same k h (inl high) = sym (same k h (inr high))
  turn ids others x same k h (inr high) = sym (same k h (inl high))

  -- two orders that agree below the place x agree at it too
  one_more : (ids others : ℕ → ℕ) → IsOrderOf rate streams pdos up ids → IsOrderOf rate streams pdos up others → (x : ℕ) → SameFrom ids others (suc x) → SameFrom ids others x
  one_more ids others a b x same p h (inl high) = at_place ids others a b x same p h high
  one_more ids others a b x same p h (inr high) = sym (at_place others ids b a x (turn ids others (suc x) same) p h high)

  -- no identifier is past both ranges
  none_past : (ids : ℕ → ℕ) → IsOrderOf rate streams pdos up ids → (p : ℕ) → p < pdos → ids p < 0x680 + pdos
  none_past ids a p h = omega (arith, a.high p h, least_most (up p), number_most pdos (is_part up (up p)))

  unique_from : (ids others : ℕ → ℕ) → IsOrderOf rate streams pdos up ids → IsOrderOf rate streams pdos up others → (n x : ℕ) → 0x680 + pdos ≤ x + n → SameFrom ids others x
  unique_from ids others a b zero x all p h (inl high) = absurd (omega (arith, none_past ids a p h))
  unique_from ids others a b zero x all p h (inr high) = absurd (omega (arith, none_past others b p h))
  unique_from ids others a b (suc n) x all p h high = one_more ids others a b x (unique_from ids others a b n (suc x) (omega arith)) p h high

  unique_of : (ids others : ℕ → ℕ) → IsOrderOf rate streams pdos up ids → IsOrderOf rate streams pdos up others → (p : ℕ) → p < pdos → ids p ≡ others p
  unique_of ids others a b p h = unique_from ids others a b (0x680 + pdos) 0 (omega arith) p h (inl (omega arith))

-- the PDOs of the first range are the same
upper_is_one : (rate : Rate) (streams : List Stream) (pdos : ℕ) (a b : ℕ → Bool) → IsUpper rate streams pdos a → IsUpper rate streams pdos b → a ≡ b
upper_is_one rate streams pdos a b of_a of_b = λ i k. same k (cases_lt k pdos) i
  where
    past : (c : ℕ → Bool) → ((k : ℕ) → c k ≡ true → k < pdos) → (k : ℕ) → pdos ≤ k → (c k ≡ true) ⊎ (c k ≡ false) → c k ≡ false
    past c bounded k h (inl e) = absurd (omega (arith, h, bounded k e))
    past c bounded k h (inr e) = e

    inside : (k : ℕ) → k < pdos → (FramesPass rate streams pdos (λ k. nat_lt k pdos) × ((k : ℕ) → k < pdos → a k ≡ true))
        ⊎ ((FramesPass rate streams pdos (λ k. nat_lt k pdos) → ⊥) × (top : ℕ → Bool) × (pdos ≤ second_range.count → IsGreatestStuckSet second_range.least rate streams pdos (λ k. nat_lt k pdos) top) × ((k : ℕ) → k < pdos → a k ≡ kept pdos top k))
        → (FramesPass rate streams pdos (λ k. nat_lt k pdos) × ((k : ℕ) → k < pdos → b k ≡ true))
        ⊎ ((FramesPass rate streams pdos (λ k. nat_lt k pdos) → ⊥) × (top : ℕ → Bool) × (pdos ≤ second_range.count → IsGreatestStuckSet second_range.least rate streams pdos (λ k. nat_lt k pdos) top) × ((k : ℕ) → k < pdos → b k ≡ kept pdos top k))
        → a k ≡ b k
    inside k h (inl x) (inl y) = x.1 k h ∙ sym (y.1 k h)
    inside k h (inl x) (inr y) = absurd (y.0 x.0)
    inside k h (inr x) (inl y) = absurd (x.0 y.0)
    inside k h (inr (_, s, g, e)) (inr (_, t, f, d)) = e k h ∙ go (cases_lt second_range.count pdos) ∙ sym (d k h)
      where
        go : (second_range.count < pdos) ⊎ (pdos ≤ second_range.count) → kept pdos s k ≡ kept pdos t k
        go (inl many) = rw (lt-leb pdos second_range.count many) refl
        go (inr few) =
            let one : s k ≡ t k = greatest_is_one second_range.least rate streams pdos (λ k. nat_lt k pdos) s t (g few) (f few) k h in
            ap (λ (bit : Bool). if nat_le pdos second_range.count then bit else nat_lt k pdos) one

    same : (k : ℕ) → (k < pdos) ⊎ (pdos ≤ k) → a k ≡ b k
    same k (inl h) = inside k h of_a.cases of_b.cases
    same k (inr h) = past a of_a.bounded k h (cases_Bool (a k)) ∙ sym (past b of_b.bounded k h (cases_Bool (b k)))

pub unique_over_ranges : (rate : Rate) (streams : List Stream) (pdos : ℕ) (ids others : ℕ → ℕ) → pdos ≤ length streams
    → IsPlanOrder rate streams pdos ids → IsPlanOrder rate streams pdos others → (p : ℕ) → p < pdos → ids p ≡ others p
unique_over_ranges rate streams pdos ids others count (a, upper_a, order_a) (b, upper_b, order_b) =
    let same : b ≡ a = upper_is_one rate streams pdos b a upper_b upper_a in
    unique_of rate streams pdos count a ids others order_a (subst (λ (up : ℕ → Bool). IsOrderOf rate streams pdos up others) same order_b)
