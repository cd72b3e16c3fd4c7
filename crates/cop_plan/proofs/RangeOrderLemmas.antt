-- PDOs as two fillings place them are the plan's order over both ranges.
use Rattle.std.proofs.Common.{◌≡◌, ℕ, zero, suc, ◌+◌, ◌<◌, ◌≤◌, ◌⊎◌, inl, inr, Bool, true, false, not, nat_lt, nat_le, if◌then◌else◌, List, [], ◌∷◌, length, refl, sym, ◌∙◌, subst, arith}
use Rattle.std.proofs.lemmas.Bool.{cases_Bool, cases_lt, or_cases, or_left, lt-ltb, ltb-true, le-leb, lt-leb, cond-true, cond-false}
use Rattle.cop_frame.specs.declared.rates.Rate.{Rate}
use Rattle.cop_rta.specs.declared.streams.Stream.{Stream}
use Rattle.cop_rta.specs.Sums.{sum_where}
use Rattle.cop_rta.specs.Test.{Passes}
use Rattle.cop_rta.proofs.MoreAbove.{passes_under_fewer}
use Rattle.cop_cert.specs.Evidence.{is_listed}
use Rattle.cop_rta.specs.Ranges.{first_range, second_range}
use Rattle.cop_cert.specs.Assignments.{AreOutside}
use Rattle.cop_cert.specs.Causes.{kept}
use Rattle.cop_cert.specs.Sets.{trial, is_in_trial}
use Rattle.cop_cert.proofs.AboveLemmas.{set_within_set}
use Rattle.cop_plan.specs.Fillings.{rank}
use Rattle.cop_plan.specs.Orders.{from_place}
use Rattle.cop_plan.specs.Fillings.{with_left, number, IsFilled, ids_in_ranges}
use Rattle.cop_plan.specs.Orders.{FramesPass, least_of_part, is_part, IsOrderOf, IsPlanOrder}
use Rattle.cop_plan.proofs.FillingLemmas.{no_bit, among_cases, rank_full, rank_below}
use Rattle.cop_plan.proofs.RangeFlagLemmas.{number_all}
use Rattle.cop_plan.proofs.RangePassLemmas.{ArePlaced, id_of_lower, id_of_upper, not_lower, in_upper, in_second, in_first, placed_pass, first_alone_placed, fillings_placed}
use Rattle.cop_plan.proofs.RangePlaceLemmas.{FromPlace, from_place_of}
use Rattle.cop_plan.proofs.StuckLemmas.{left_is_greatest}

number_none : (n : ℕ) → number n (λ _. false) ≡ 0
unfolding sum_where
number_none zero = refl
number_none (suc n) = omega (arith, number_none n)

-- a test takes a PDO or does not
number_others : (n : ℕ) (test : ℕ → Bool) → number n test + number n (λ k. not (test k)) ≡ n
unfolding sum_where
number_others zero test = omega arith
number_others (suc n) test = go (test n) (number_others n test)
  where
    go : (b : Bool) → number n test + number n (λ k. not (test k)) ≡ n
        → (number n test + (if b then 1 else 0)) + (number n (λ k. not (test k)) + (if not b then 1 else 0)) ≡ suc n
    go true h = omega (arith, h)
    go false h = omega (arith, h)

module _ (rate : Rate) (streams : List Stream) (pdos : ℕ) (up : ℕ → Bool) (lower upper : List ℕ) (count : pdos ≤ length streams) (few : pdos ≤ first_range.count)
    (placed : ArePlaced rate streams pdos up lower upper) where
  abbrev ids : ℕ → ℕ
  ids = ids_in_ranges lower upper

  -- the PDOs of either range by what is kept
  of_first : (p : ℕ) → up p ≡ true → is_listed lower p ≡ false
  of_first p h = go (cases_Bool (is_listed lower p))
    where
      go : (is_listed lower p ≡ true) ⊎ (is_listed lower p ≡ false) → is_listed lower p ≡ false
      go (inl m) = absurd (no_bit (up p) h (placed.lower_split.apart p m))
      go (inr e) = e

  of_second : (p : ℕ) → p < pdos → up p ≡ false → is_listed lower p ≡ true
  of_second p below h = go (cases_Bool (is_listed lower p))
    where
      go : (is_listed lower p ≡ true) ⊎ (is_listed lower p ≡ false) → is_listed lower p ≡ true
      go (inl m) = m
      go (inr e) = absurd (no_bit (up p) (not_lower rate streams pdos up lower upper count few placed p below e) h)

  first_id : (p : ℕ) → up p ≡ true → ids p ≡ first_range.least + rank upper p
  first_id p h = id_of_upper rate streams pdos up lower upper count few placed p (of_first p h)

  second_id : (p : ℕ) → p < pdos → up p ≡ false → ids p ≡ second_range.least + rank lower p
  second_id p below h = id_of_lower rate streams pdos up lower upper count few placed p (of_second p below h)

  in_first_list : (p : ℕ) → p < pdos → up p ≡ true → is_listed upper p ≡ true
  in_first_list p below h = in_upper rate streams pdos up lower upper count few placed p below (of_first p h)

  up_of_listed : (p : ℕ) → is_listed upper p ≡ true → up p ≡ true
  up_of_listed p m = sym (placed.upper_split.each p (placed.upper_split.inside p m)) ∙ or_left (is_listed upper p) false m

  first_number : number pdos (is_part up true) ≡ length upper
  first_number = let n : length upper + number pdos (λ _. false) ≡ number pdos (is_part up true) = placed.upper_split.counted in omega (arith, n, number_none pdos)

  second_number : number pdos (is_part up false) ≡ length lower
  second_number =
      let n : number pdos up + number pdos (is_part up false) ≡ pdos = number_others pdos up in
      omega (arith, n, placed.lower_split.counted, number_all pdos (λ k. nat_lt k pdos) (λ k h. lt-ltb k pdos h))

  low : (p : ℕ) → p < pdos → (up p ≡ true) ⊎ (up p ≡ false) → least_of_part (up p) ≤ ids p
  low p below (inl e) = rw e (omega (arith, first_id p e))
  low p below (inr e) = rw e (omega (arith, second_id p below e))

  high : (p : ℕ) → p < pdos → (up p ≡ true) ⊎ (up p ≡ false) → ids p < least_of_part (up p) + number pdos (is_part up (up p))
  high p below (inl e) = rw (e, first_number) (omega (arith, first_id p e, rank_below upper p (in_first_list p below e)))
  high p below (inr e) = rw (e, second_number) (omega (arith, second_id p below e, rank_below lower p (of_second p below e)))

  full : (p : ℕ) → p < pdos → (b : Bool) → (i : ℕ) → i < number pdos (is_part up b) → (r : ℕ) × (r < pdos) × (up r ≡ b) × (ids r ≡ least_of_part b + i)
  full p below true i h =
      let found = rank_full upper placed.upper_split.distinct i (omega (arith, h, first_number)) in
      let part : up found.0 ≡ true = up_of_listed found.0 found.1 in
      (found.0, placed.upper_split.inside found.0 found.1, part, omega (arith, first_id found.0 part, found.2))
  full p below false i h =
      let found = rank_full lower placed.lower_split.distinct i (omega (arith, h, second_number)) in
      let part : up found.0 ≡ false = placed.lower_split.apart found.0 found.1 in
      let inside : found.0 < pdos = placed.lower_split.inside found.0 found.1 in
      (found.0, inside, part, omega (arith, second_id found.0 inside part, found.2))

  -- in the filling of a range the later row would fail
  later_first : (p r : ℕ) → p < pdos → r < pdos → up p ≡ true → up r ≡ true → p < r → ids r < ids p → Passes (trial first_range.least rate streams pdos (from_place ids p) r) → ⊥
  later_first p r below inside e f up_row lt passes =
      let w = from_place_of first_range.least rate streams pdos (λ _. false) upper placed.upper_split.distinct placed.upper_passes placed.upper_later p (in_first_list p below e) in
      w.later r (or_left (is_listed w.rest r) false (after w)) up_row
      (passes_under_fewer (trial first_range.least rate streams pdos (with_left (p ∷ w.rest) (λ _. false)) r) (is_in_trial first_range.least streams pdos (from_place ids p)) (omega (arith, inside, count))
      (set_within_set rate streams pdos first_range.least (with_left (p ∷ w.rest) (λ _. false)) (from_place ids p) r (λ k i other m. le-leb (ids k) (ids p) (no_higher w k i (or_cases (is_listed (p ∷ w.rest) k) false m))))
      passes)
    where
      after : (w : FromPlace first_range.least rate streams pdos (λ _. false) upper p) → is_listed w.rest r ≡ true
      after w = go (among_cases p r w.rest (w.covers r (in_first_list r inside f) (omega (arith, lt, first_id p e, first_id r f))))
        where
          go : (p ≡ r) ⊎ (is_listed w.rest r ≡ true) → is_listed w.rest r ≡ true
          go (inl same) = absurd (omega (arith, same, up_row))
          go (inr m) = m

      no_higher : (w : FromPlace first_range.least rate streams pdos (λ _. false) upper p) (k : ℕ) → k < pdos → (is_listed (p ∷ w.rest) k ≡ true) ⊎ (false ≡ true) → ids k ≤ ids p
      no_higher w k i (inl m) = omega (arith, w.within k m, first_id p e, first_id k (up_of_listed k (w.part k m)))
      no_higher w k i (inr never) = absurd (no_bit false never refl)

  later_second : (p r : ℕ) → p < pdos → r < pdos → up p ≡ false → up r ≡ false → p < r → ids r < ids p → Passes (trial second_range.least rate streams pdos (from_place ids p) r) → ⊥
  later_second p r below inside e f up_row lt passes =
      let w = from_place_of second_range.least rate streams pdos up lower placed.lower_split.distinct placed.lower_passes placed.lower_later p (of_second p below e) in
      w.later r (or_left (is_listed w.rest r) (up r) (after w)) up_row
      (passes_under_fewer (trial second_range.least rate streams pdos (with_left (p ∷ w.rest) up) r) (is_in_trial second_range.least streams pdos (from_place ids p)) (omega (arith, inside, count))
      (set_within_set rate streams pdos second_range.least (with_left (p ∷ w.rest) up) (from_place ids p) r (λ k i other m. le-leb (ids k) (ids p) (no_higher w k i (or_cases (is_listed (p ∷ w.rest) k) (up k) m))))
      passes)
    where
      after : (w : FromPlace second_range.least rate streams pdos up lower p) → is_listed w.rest r ≡ true
      after w = go (among_cases p r w.rest (w.covers r (of_second r inside f) (omega (arith, lt, second_id p below e, second_id r inside f))))
        where
          go : (p ≡ r) ⊎ (is_listed w.rest r ≡ true) → is_listed w.rest r ≡ true
          go (inl same) = absurd (omega (arith, same, up_row))
          go (inr m) = m

      no_higher : (w : FromPlace second_range.least rate streams pdos up lower p) (k : ℕ) → k < pdos → (is_listed (p ∷ w.rest) k ≡ true) ⊎ (up k ≡ true) → ids k ≤ ids p
      no_higher w k i (inl m) = omega (arith, w.within k m, second_id p below e, second_id k i (placed.lower_split.apart k (w.part k m)))
      no_higher w k i (inr m) = omega (arith, (in_first rate streams pdos up lower upper count few placed k i (of_first k m)).1, (in_second rate streams pdos up lower upper count few placed p (of_second p below e)).0)

  later : (p r : ℕ) → p < pdos → r < pdos → (up p ≡ true) ⊎ (up p ≡ false) → up r ≡ up p → p < r → ids r < ids p → Passes (trial (least_of_part (up p)) rate streams pdos (from_place ids p) r) → ⊥
  later p r below inside (inl e) same up_row lt passes =
      later_first p r below inside e (same ∙ e) up_row lt (subst (λ (b : Bool). Passes (trial (least_of_part b) rate streams pdos (from_place ids p) r)) e passes)
  later p r below inside (inr e) same up_row lt passes =
      later_second p r below inside e (same ∙ e) up_row lt (subst (λ (b : Bool). Passes (trial (least_of_part b) rate streams pdos (from_place ids p) r)) e passes)

  pub placed_order : AreOutside first_range streams pdos → AreOutside second_range streams pdos → FramesPass rate streams pdos up → IsOrderOf rate streams pdos up (ids_in_ranges lower upper)
  placed_order outside_first outside_second frames =
      let passing = placed_pass rate streams pdos up lower upper count few placed outside_first outside_second frames in
      record {
        low = λ p below. low p below (cases_Bool (up p));
        high = λ p below. high p below (cases_Bool (up p));
        distinct = passing.0.distinct;
        full = λ p below i h. full p below (up p) i h;
        passes = passing.1;
        later = λ p r below inside same up_row lt passes. later p r below inside (cases_Bool (up p)) same up_row lt passes;
      }

-- ---- what the fillings give

module _ (rate : Rate) (streams : List Stream) (pdos : ℕ) (count : pdos ≤ length streams) (few : pdos ≤ first_range.count)
    (outside_first : AreOutside first_range streams pdos) (outside_second : AreOutside second_range streams pdos)
    (first : List ℕ) (stuck : ℕ → Bool) (filled : IsFilled first_range.least rate streams pdos (λ k. nat_lt k pdos) first stuck) (none : (k : ℕ) → k < pdos → stuck k ≡ false) where
  -- where each SDO frame with a deadline passes below all PDOs: the first range alone
  pub first_alone_order : FramesPass rate streams pdos (λ k. nat_lt k pdos) → IsPlanOrder rate streams pdos (ids_in_ranges [] first)
  first_alone_order frames = (
    (λ (k : ℕ). nat_lt k pdos),
    record { bounded = λ k m. ltb-true k pdos m; cases = inl (frames, λ k h. lt-ltb k pdos h) },
    placed_order rate streams pdos (λ k. nat_lt k pdos) [] first count few
        (first_alone_placed rate streams pdos count few outside_first outside_second first stuck filled none) outside_first outside_second frames,
  )

  -- and where some frame does not: both ranges
  pub fillings_order : (second third : List ℕ) (top left : ℕ → Bool)
      → (pdos ≤ second_range.count → IsFilled second_range.least rate streams pdos (λ k. nat_lt k pdos) second top)
      → IsFilled first_range.least rate streams pdos (kept pdos top) third left
      → (FramesPass rate streams pdos (λ k. nat_lt k pdos) → ⊥) → FramesPass rate streams pdos (kept pdos top)
      → IsPlanOrder rate streams pdos (ids_in_ranges (if nat_le pdos second_range.count then second else []) third)
  fillings_order second third top left lower upper some_fails frames = (
    kept pdos top,
    record {
      bounded = λ k m. bounded k m (cases_lt second_range.count pdos);
      cases = inr (
        some_fails,
        top,
        λ room. left_is_greatest second_range.least rate streams pdos count (λ k. nat_lt k pdos) top second (lower room).split (lower room).passes (lower room).stuck,
        λ k h. refl,
      );
    },
    placed_order rate streams pdos (kept pdos top) (if nat_le pdos second_range.count then second else []) third count few
        (fillings_placed rate streams pdos count few outside_first outside_second first stuck filled second third top left lower upper none) outside_first outside_second frames,
  )
    where
      bounded : (k : ℕ) → kept pdos top k ≡ true → (second_range.count < pdos) ⊎ (pdos ≤ second_range.count) → k < pdos
      bounded k m (inl many) = ltb-true k pdos (sym (cond-false (nat_le pdos second_range.count) (top k) (nat_lt k pdos) (lt-leb pdos second_range.count many)) ∙ m)
      bounded k m (inr room) = (lower room).split.bounded k (sym (cond-true (nat_le pdos second_range.count) (top k) (nat_lt k pdos) (le-leb pdos second_range.count room)) ∙ m)
