-- The order of a plan as a list, and identifiers by it.
use Rattle.std.proofs.Common.{◌≡◌, ◌≢◌, ℕ, ◌+◌, ◌-◌, ◌<◌, ◌⊎◌, inl, inr, Bool, true, false, ◌||◌, ◌==◌, List, [], ◌∷◌, ◌++◌, length, get_or, reverse, All, AllPairs, refl, sym, ap, ◌∙◌, arith, length-append}
use Rattle.std.proofs.lemmas.Bool.{cases_Bool, cases_eq, cond-true, cond-false, eq-eqb, or_cases, or_left, or_right, lt-ltb, le-ltb}
use Rattle.std.proofs.lemmas.List.{get_or-reverse, length-reverse, reverse-append}
use Rattle.cop_rta.specs.Ranges.{first_range, second_range}
use Rattle.cop_cert.specs.Evidence.{is_listed}
use Rattle.cop_plan.specs.Fillings.{AreDistinct, ArePlaced, rank, ids_in_ranges}
use Rattle.cop_plan.specs.Orders.{id_at_place}
use Rattle.cop_plan.specs.Values.{id_of}
use Rattle.cop_plan.proofs.FillingLemmas.{no_bit, among_cases, rank-head, rank-tail, listed_at, rank_at, rank_below, rank_apart}

-- each PDO stands in one list, once
pub record IsWhole (pdos : ℕ) (fill : List ℕ) : Type 0 where
  pub distinct : AreDistinct fill
  pub each : (k : ℕ) → k < pdos → is_listed fill k ≡ true
  pub inside : (k : ℕ) → is_listed fill k ≡ true → k < pdos
  pub count : length fill ≡ pdos

module _ (pdos : ℕ) (fill : List ℕ) (whole : IsWhole pdos fill) where
  listed_in_order : (i d : ℕ) → i < length fill → is_listed fill (get_or (reverse fill) i d) ≡ true
  listed_in_order i d h = rw (get_or-reverse fill i d h) (listed_at fill (length fill - 1 - i) d (omega (arith, h)))

  -- the rank of what stands at a place of the order is that place
  pub rank_in_order : (i d : ℕ) → i < length fill → rank fill (get_or (reverse fill) i d) ≡ i
  rank_in_order i d h = rw (get_or-reverse fill i d h)
      (omega (arith, h, rank_at fill whole.distinct (length fill - 1 - i) d (omega (arith, h))))

  pub order_inside : All (λ p. p < pdos) (reverse fill)
  order_inside k d h =
      let low : k < length fill = omega (arith, h, length-reverse fill) in
      whole.inside (get_or (reverse fill) k d) (listed_in_order k d low)

  pub order_distinct : AllPairs (λ p r. p ≢ r) (reverse fill)
  order_distinct i j d lt h same =
      let high : j < length fill = omega (arith, h, length-reverse fill) in
      let ranks : rank fill (get_or (reverse fill) i d) ≡ rank fill (get_or (reverse fill) j d) = ap (λ (p : ℕ). rank fill p) same in
      absurd (omega (arith, lt, ranks, rank_in_order i d (omega (arith, lt, high)), rank_in_order j d high))

  -- each PDO stands at its rank in the order
  pub at_rank : (p : ℕ) → p < pdos → get_or (reverse fill) (rank fill p) 0 ≡ p
  at_rank p h =
      let low : rank fill p < length fill = rank_below fill p (whole.each p h) in
      rank_apart fill (get_or (reverse fill) (rank fill p) 0) p (listed_in_order (rank fill p) 0 low) (whole.each p h) (rank_in_order (rank fill p) 0 low)

-- ---- two lists after one another

listed_append : (xs ys : List ℕ) (k : ℕ) → is_listed (xs ++ ys) k ≡ (is_listed xs k || is_listed ys k)
listed_append [] ys k = refl
listed_append (x ∷ xs) ys k = rw (listed_append xs ys k) (by (x == k) (is_listed xs k) (is_listed ys k))
  where
    by : (a b c : Bool) → (a || (b || c)) ≡ ((a || b) || c)
    by true b c = refl
    by false b c = refl

rank_first : (xs ys : List ℕ) (k : ℕ) → is_listed xs k ≡ true → rank (xs ++ ys) k ≡ rank xs k + length ys
rank_first [] ys k h = absurd (no_bit false h refl)
rank_first (x ∷ xs) ys k h = go (rank_first xs ys k) (among_cases x k xs h) (cases_eq x k)
  where
    go : (is_listed xs k ≡ true → rank (xs ++ ys) k ≡ rank xs k + length ys) → (x ≡ k) ⊎ (is_listed xs k ≡ true) → (x ≡ k) ⊎ (x ≡ k → ⊥) → rank (x ∷ (xs ++ ys)) k ≡ rank (x ∷ xs) k + length ys
    go before _ (inl e) = rw (← e) (omega (arith, rank-head x xs, rank-head x (xs ++ ys), length-append xs ys))
    go before (inl e) (inr apart) = absurd (apart e)
    go before (inr later) (inr apart) = omega (arith, rank-tail x k xs apart, rank-tail x k (xs ++ ys) apart, before later)

rank_second : (xs ys : List ℕ) (k : ℕ) → is_listed xs k ≡ false → rank (xs ++ ys) k ≡ rank ys k
rank_second [] ys k h = refl
rank_second (x ∷ xs) ys k h = go (rank_second xs ys k) (cases_eq x k) (cases_Bool (is_listed xs k))
  where
    go : (is_listed xs k ≡ false → rank (xs ++ ys) k ≡ rank ys k) → (x ≡ k) ⊎ (x ≡ k → ⊥) → (is_listed xs k ≡ true) ⊎ (is_listed xs k ≡ false) → rank (x ∷ (xs ++ ys)) k ≡ rank ys k
    go before (inl e) _ = absurd (no_bit (is_listed (x ∷ xs) k) (or_left (x == k) (is_listed xs k) (eq-eqb x k e)) h)
    go before (inr apart) (inl m) = absurd (no_bit (is_listed (x ∷ xs) k) (or_right (x == k) (is_listed xs k) m) h)
    go before (inr apart) (inr m) = rank-tail x k (xs ++ ys) apart ∙ before m

distinct_append : (xs ys : List ℕ) → AreDistinct xs → AreDistinct ys → ((k : ℕ) → is_listed xs k ≡ true → is_listed ys k ≡ false) → AreDistinct (xs ++ ys)
distinct_append [] ys d e apart = e
distinct_append (x ∷ xs) ys d e apart = (
  listed_append xs ys x ∙ rw (d.0, apart x (or_left (x == x) (is_listed xs x) (eq-eqb x x refl))) refl,
  distinct_append xs ys d.1 e (λ k m. apart k (or_right (x == k) (is_listed xs k) m)),
)

-- ---- two fillings

module _ (pdos : ℕ) (lower upper : List ℕ) (placed : ArePlaced pdos lower upper) where
  pub whole_of_placed : IsWhole pdos (lower ++ upper)
  whole_of_placed = record {
    distinct = distinct_append lower upper placed.distinct_lower placed.distinct_upper placed.apart;
    each = λ k h. listed_append lower upper k ∙ placed.each k h;
    inside = λ k m. inside k (or_cases (is_listed lower k) (is_listed upper k) (sym (listed_append lower upper k) ∙ m));
    count = omega (arith, length-append lower upper, placed.count);
  }
    where
      inside : (k : ℕ) → (is_listed lower k ≡ true) ⊎ (is_listed upper k ≡ true) → k < pdos
      inside k (inl m) = placed.inside_lower k m
      inside k (inr m) = placed.inside_upper k m

  pub in_upper : (p : ℕ) → p < pdos → is_listed lower p ≡ false → is_listed upper p ≡ true
  in_upper p h e = go (or_cases (is_listed lower p) (is_listed upper p) (placed.each p h))
    where
      go : (is_listed lower p ≡ true) ⊎ (is_listed upper p ≡ true) → is_listed upper p ≡ true
      go (inl m) = absurd (no_bit (is_listed lower p) m e)
      go (inr m) = m

  pub lower_id : (p : ℕ) → is_listed lower p ≡ true → ids_in_ranges lower upper p ≡ second_range.least + rank lower p
  lower_id p h = cond-true (is_listed lower p) (second_range.least + rank lower p) (first_range.least + rank upper p) h

  pub upper_id : (p : ℕ) → is_listed lower p ≡ false → ids_in_ranges lower upper p ≡ first_range.least + rank upper p
  upper_id p h = cond-false (is_listed lower p) (second_range.least + rank lower p) (first_range.least + rank upper p) h

  -- identifiers by place are identifiers by rank
  id_by_rank : (p : ℕ) → p < pdos → id_at_place (length upper) (rank (lower ++ upper) p) ≡ ids_in_ranges lower upper p
  id_by_rank p h = go (cases_Bool (is_listed lower p))
    where
      go : (is_listed lower p ≡ true) ⊎ (is_listed lower p ≡ false) → id_at_place (length upper) (rank (lower ++ upper) p) ≡ ids_in_ranges lower upper p
      go (inl m) =
          let r : rank (lower ++ upper) p ≡ rank lower p + length upper = rank_first lower upper p m in
          rw (le-ltb (rank (lower ++ upper) p) (length upper) (omega (arith, r))) (omega (arith, r, lower_id p m))
      go (inr m) =
          let r : rank (lower ++ upper) p ≡ rank upper p = rank_second lower upper p m in
          rw (lt-ltb (rank (lower ++ upper) p) (length upper) (omega (arith, r, rank_below upper p (in_upper p h m)))) (omega (arith, r, upper_id p m))

  pub ids_by_rank : (order ids : List ℕ) → order ≡ reverse upper ++ reverse lower
      → ((i : ℕ) → i < length order → id_of ids (get_or order i 0) ≡ id_at_place (length upper) i)
      → (p : ℕ) → p < pdos → id_of ids p ≡ ids_in_ranges lower upper p
  ids_by_rank order ids e places p h =
      let one : order ≡ reverse (lower ++ upper) = e ∙ sym (reverse-append lower upper) in
      let low : rank (lower ++ upper) p < length (lower ++ upper) = rank_below (lower ++ upper) p (whole_of_placed.each p h) in
      let same : get_or order (rank (lower ++ upper) p) 0 ≡ p = ap (λ (list : List ℕ). get_or list (rank (lower ++ upper) p) 0) one ∙ at_rank pdos (lower ++ upper) whole_of_placed p h in
      ap (λ (r : ℕ). id_of ids r) (sym same)
      ∙ places (rank (lower ++ upper) p) (omega (arith, low, ap length one, length-reverse (lower ++ upper)))
      ∙ id_by_rank p h
