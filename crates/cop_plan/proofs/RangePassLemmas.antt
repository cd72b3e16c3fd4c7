-- Some assignment passes over both ranges exactly where the first holds all PDOs and each SDO frame with a deadline passes below those
-- that the second cannot hold.
use Rattle.std.proofs.Common.{◌≡◌, ◌↔◌, ℕ, zero, suc, ◌+◌, ◌<◌, ◌≤◌, ◌⊎◌, inl, inr, Bool, true, false, ◌||◌, nat_lt, nat_le, if◌then◌else◌, List, [], ◌∷◌, length, refl, sym, subst, ◌∙◌, arith}
use Rattle.std.proofs.lemmas.Bool.{cases_lt, cases_Bool, or_left, or_right, cond-true, cond-false, le-leb, lt-ltb, ltb-true, lt-leb}
use Rattle.cop_frame.specs.declared.rates.Rate.{Rate}
use Rattle.cop_rta.specs.declared.streams.Stream.{Stream}
use Rattle.cop_rta.specs.Sums.{sum_where}
use Rattle.cop_rta.specs.Test.{Passes}
use Rattle.cop_rta.proofs.MoreAbove.{passes_under_fewer}
use Rattle.cop_cert.specs.Assignments.{place_under}
use Rattle.cop_cert.specs.Evidence.{is_listed}
use Rattle.cop_rta.specs.Ranges.{first_range, second_range, IsIn, IsPermitted}
use Rattle.cop_cert.specs.Assignments.{IsAssignment, id_at, AreOutside, IsSdo, IsTested, IsPassing}
use Rattle.cop_cert.specs.Causes.{kept, PassesBelow}
use Rattle.cop_cert.specs.Sets.{is_in_trial}
use Rattle.cop_cert.proofs.RangeLemmas.{ids_within_range, ids_within_set_at, none_stuck, frame_passes}
use Rattle.cop_plan.specs.Fillings.{rank}
use Rattle.cop_plan.specs.Fillings.{with_left, number, PassInTurn, LaterFail, AreSplit, IsFilled, ids_in_ranges}
use Rattle.cop_plan.proofs.FillingLemmas.{no_bit, rank_below, rank_apart}
use Rattle.cop_plan.proofs.RangePlaceLemmas.{FromPlace, from_place_of}
use Rattle.cop_plan.proofs.StuckLemmas.{left_is_greatest}

-- a test takes no more PDOs than there are
pub number_most : (n : ℕ) (test : ℕ → Bool) → number n test ≤ n
unfolding sum_where
number_most zero test = omega arith
number_most (suc n) test = go (test n) (number_most n test)
  where
    go : (b : Bool) → number n test ≤ n → number n test + (if b then 1 else 0) ≤ suc n
    go true h = omega (arith, h)
    go false h = omega (arith, h)

-- the PDOs as they are placed: some in the second range, if it has room for all, and the rest in the first
pub record ArePlaced (rate : Rate) (streams : List Stream) (pdos : ℕ) (up : ℕ → Bool) (lower upper : List ℕ) : Type 0 where
  pub room : (k : ℕ) → is_listed lower k ≡ true → pdos ≤ second_range.count
  pub lower_split : AreSplit pdos (λ k. nat_lt k pdos) lower up
  pub lower_passes : PassInTurn second_range.least rate streams pdos up lower
  pub lower_later : LaterFail second_range.least rate streams pdos up lower
  pub upper_split : AreSplit pdos up upper (λ _. false)
  pub upper_passes : PassInTurn first_range.least rate streams pdos (λ _. false) upper
  pub upper_later : LaterFail first_range.least rate streams pdos (λ _. false) upper

module _ (rate : Rate) (streams : List Stream) (pdos : ℕ) (up : ℕ → Bool) (lower upper : List ℕ) (count : pdos ≤ length streams) (few : pdos ≤ first_range.count)
    (placed : ArePlaced rate streams pdos up lower upper) where
  pub id_of_lower : (p : ℕ) → is_listed lower p ≡ true → ids_in_ranges lower upper p ≡ second_range.least + rank lower p
  id_of_lower p h = cond-true (is_listed lower p) (second_range.least + rank lower p) (first_range.least + rank upper p) h

  pub id_of_upper : (p : ℕ) → is_listed lower p ≡ false → ids_in_ranges lower upper p ≡ first_range.least + rank upper p
  id_of_upper p h = cond-false (is_listed lower p) (second_range.least + rank lower p) (first_range.least + rank upper p) h

  -- what is not placed in the second range is kept, and placed in the first
  pub not_lower : (p : ℕ) → p < pdos → is_listed lower p ≡ false → up p ≡ true
  not_lower p below h =
      let e : (is_listed lower p || up p) ≡ true = placed.lower_split.each p below ∙ lt-ltb p pdos below in
      rw h at e

  pub in_upper : (p : ℕ) → p < pdos → is_listed lower p ≡ false → is_listed upper p ≡ true
  in_upper p below h = bare (is_listed upper p) (placed.upper_split.each p below ∙ not_lower p below h)
    where
      bare : (b : Bool) → (b || false) ≡ true → b ≡ true
      bare true e = refl
      bare false e = e

  rank_lower : (p : ℕ) → is_listed lower p ≡ true → rank lower p < pdos
  rank_lower p h = omega (arith, rank_below lower p h, placed.lower_split.counted, number_most pdos (λ k. nat_lt k pdos))

  rank_upper : (p : ℕ) → is_listed upper p ≡ true → rank upper p < pdos
  rank_upper p h = omega (arith, rank_below upper p h, placed.upper_split.counted, number_most pdos up)

  pub in_second : (p : ℕ) → is_listed lower p ≡ true → IsIn second_range (ids_in_ranges lower upper p)
  in_second p h = (omega (arith, id_of_lower p h), omega (arith, id_of_lower p h, rank_lower p h, placed.room p h))

  pub in_first : (p : ℕ) → p < pdos → is_listed lower p ≡ false → IsIn first_range (ids_in_ranges lower upper p)
  in_first p below h = (omega (arith, id_of_upper p h), omega (arith, id_of_upper p h, rank_upper p (in_upper p below h), few))

  placed_permitted : IsAssignment pdos (ids_in_ranges lower upper)
  placed_permitted = record {
    permitted = λ p below. permitted p below (cases_Bool (is_listed lower p));
    distinct = λ p r h g e. distinct p r h g e (cases_Bool (is_listed lower p)) (cases_Bool (is_listed lower r));
  }
    where
      permitted : (p : ℕ) → p < pdos → (is_listed lower p ≡ true) ⊎ (is_listed lower p ≡ false) → IsPermitted pdos (ids_in_ranges lower upper p)
      permitted p below (inl h) = inr (placed.room p h, in_second p h)
      permitted p below (inr h) = inl (in_first p below h)

      distinct : (p r : ℕ) → p < pdos → r < pdos → ids_in_ranges lower upper p ≡ ids_in_ranges lower upper r
          → (is_listed lower p ≡ true) ⊎ (is_listed lower p ≡ false) → (is_listed lower r ≡ true) ⊎ (is_listed lower r ≡ false) → p ≡ r
      distinct p r h g e (inl a) (inl b) = rank_apart lower p r a b (omega (arith, e, id_of_lower p a, id_of_lower r b))
      distinct p r h g e (inl a) (inr b) = absurd (omega (arith, e, (in_second p a).0, (in_first r g b).1))
      distinct p r h g e (inr a) (inl b) = absurd (omega (arith, e, (in_second r b).0, (in_first p h a).1))
      distinct p r h g e (inr a) (inr b) = rank_apart upper p r (in_upper p h a) (in_upper r g b) (omega (arith, e, id_of_upper p a, id_of_upper r b))

  lower_place_passes : AreOutside second_range streams pdos → (p : ℕ) → p < pdos → is_listed lower p ≡ true → Passes (place_under rate streams pdos (ids_in_ranges lower upper) p)
  lower_place_passes outside p below h =
      let w = from_place_of second_range.least rate streams pdos up lower placed.lower_split.distinct placed.lower_passes placed.lower_later p h in
      passes_under_fewer (place_under rate streams pdos (ids_in_ranges lower upper) p) (is_in_trial second_range.least streams pdos (with_left (p ∷ w.rest) up)) (omega (arith, below, count))
      (ids_within_range rate streams pdos second_range (with_left (p ∷ w.rest) up) (ids_in_ranges lower upper) p outside below (in_second p h)
      (λ k i other lt. there w k i lt (cases_Bool (is_listed lower k))))
      w.passes
    where
      there : (w : FromPlace second_range.least rate streams pdos up lower p) (k : ℕ) → k < pdos → ids_in_ranges lower upper k < ids_in_ranges lower upper p
          → (is_listed lower k ≡ true) ⊎ (is_listed lower k ≡ false) → with_left (p ∷ w.rest) up k ≡ true
      there w k i lt (inl m) = or_left (is_listed (p ∷ w.rest) k) (up k) (w.covers k m (omega (arith, lt, id_of_lower k m, id_of_lower p h)))
      there w k i lt (inr m) = or_right (is_listed (p ∷ w.rest) k) (up k) (not_lower k i m)

  upper_place_passes : AreOutside first_range streams pdos → (p : ℕ) → p < pdos → is_listed lower p ≡ false → Passes (place_under rate streams pdos (ids_in_ranges lower upper) p)
  upper_place_passes outside p below h =
      let w = from_place_of first_range.least rate streams pdos (λ _. false) upper placed.upper_split.distinct placed.upper_passes placed.upper_later p (in_upper p below h) in
      passes_under_fewer (place_under rate streams pdos (ids_in_ranges lower upper) p) (is_in_trial first_range.least streams pdos (with_left (p ∷ w.rest) (λ _. false))) (omega (arith, below, count))
      (ids_within_range rate streams pdos first_range (with_left (p ∷ w.rest) (λ _. false)) (ids_in_ranges lower upper) p outside below (in_first p below h)
      (λ k i other lt. there w k i lt (cases_Bool (is_listed lower k))))
      w.passes
    where
      there : (w : FromPlace first_range.least rate streams pdos (λ _. false) upper p) (k : ℕ) → k < pdos → ids_in_ranges lower upper k < ids_in_ranges lower upper p
          → (is_listed lower k ≡ true) ⊎ (is_listed lower k ≡ false) → with_left (p ∷ w.rest) (λ _. false) k ≡ true
      there w k i lt (inl m) = absurd (omega (arith, lt, (in_second k m).0, (in_first p below h).1))
      there w k i lt (inr m) = or_left (is_listed (p ∷ w.rest) k) false (w.covers k (in_upper k i m) (omega (arith, lt, id_of_upper k m, id_of_upper p h)))

  frame_place_passes : (f : ℕ) → IsTested streams pdos f → PassesBelow rate streams pdos up f → Passes (place_under rate streams pdos (ids_in_ranges lower upper) f)
  frame_place_passes f tested passes =
      passes_under_fewer (place_under rate streams pdos (ids_in_ranges lower upper) f) (is_in_trial (id_at streams f) streams pdos up) tested.inside
      (ids_within_set_at rate streams pdos up (ids_in_ranges lower upper) f tested.fixed (λ k below lt. there k below lt (cases_Bool (is_listed lower k))))
      passes
    where
      sdo_low : (id : ℕ) → IsSdo id → id ≤ 0x67F
      sdo_low id (inl h) = omega (arith, h.1)
      sdo_low id (inr h) = h.1

      there : (k : ℕ) → k < pdos → ids_in_ranges lower upper k < id_at streams f → (is_listed lower k ≡ true) ⊎ (is_listed lower k ≡ false) → up k ≡ true
      there k below lt (inl m) = absurd (omega (arith, lt, (in_second k m).0, sdo_low (id_at streams f) tested.sdo))
      there k below lt (inr m) = not_lower k below m

  -- so the PDOs pass as they are placed, and each SDO frame with a deadline where it passes below those of the first range
  pub placed_pass : AreOutside first_range streams pdos → AreOutside second_range streams pdos → ((f : ℕ) → IsTested streams pdos f → PassesBelow rate streams pdos up f)
      → IsPassing rate streams pdos (ids_in_ranges lower upper)
  placed_pass outside_first outside_second frames = (
    placed_permitted,
    record {
      each = λ p below. each p below (cases_Bool (is_listed lower p));
      frames = λ f tested. frame_place_passes f tested (frames f tested);
    },
  )
    where
      each : (p : ℕ) → p < pdos → (is_listed lower p ≡ true) ⊎ (is_listed lower p ≡ false) → Passes (place_under rate streams pdos (ids_in_ranges lower upper) p)
      each p below (inl h) = lower_place_passes outside_second p below h
      each p below (inr h) = upper_place_passes outside_first p below h

-- ---- some assignment passes exactly where the fillings say so

-- a test that takes no PDO takes nothing
none_taken : (pdos : ℕ) (left : ℕ → Bool) → ((k : ℕ) → left k ≡ true → k < pdos) → ((k : ℕ) → k < pdos → left k ≡ false) → left ≡ (λ (k : ℕ). false)
none_taken pdos left bounded none = λ i k. go k (cases_Bool (left k)) i
  where
    go : (k : ℕ) → (left k ≡ true) ⊎ (left k ≡ false) → left k ≡ false
    go k (inl e) = none k (bounded k e)
    go k (inr e) = e

kept_few : (pdos : ℕ) (top : ℕ → Bool) → pdos ≤ second_range.count → top ≡ kept pdos top
kept_few pdos top few = λ i k. sym (cond-true (nat_le pdos second_range.count) (top k) (nat_lt k pdos) (le-leb pdos second_range.count few)) i

kept_many : (pdos : ℕ) (top : ℕ → Bool) → second_range.count < pdos → (λ (k : ℕ). nat_lt k pdos) ≡ kept pdos top
kept_many pdos top many = λ i k. sym (cond-false (nat_le pdos second_range.count) (top k) (nat_lt k pdos) (lt-leb pdos second_range.count many)) i

-- all PDOs are kept
all_kept : (pdos : ℕ) → AreSplit pdos (λ k. nat_lt k pdos) [] (λ k. nat_lt k pdos)
all_kept pdos = record {
  distinct = tt;
  inside = λ k m. absurd (no_bit false m refl);
  bounded = λ k m. ltb-true k pdos m;
  apart = λ k m. absurd (no_bit false m refl);
  each = λ k below. refl;
  counted = omega arith;
}

module _ (rate : Rate) (streams : List Stream) (pdos : ℕ) (count : pdos ≤ length streams) (few : pdos ≤ first_range.count)
    (outside_first : AreOutside first_range streams pdos) (outside_second : AreOutside second_range streams pdos)
    (first : List ℕ) (stuck : ℕ → Bool) (filled : IsFilled first_range.least rate streams pdos (λ k. nat_lt k pdos) first stuck) where
  pub first_alone_placed : ((k : ℕ) → k < pdos → stuck k ≡ false) → ArePlaced rate streams pdos (λ k. nat_lt k pdos) [] first
  first_alone_placed none =
      let nothing : stuck ≡ (λ (k : ℕ). false) = none_taken pdos stuck filled.split.bounded none in
      record {
        room = λ k m. absurd (no_bit false m refl);
        lower_split = all_kept pdos;
        lower_passes = tt;
        lower_later = tt;
        upper_split = subst (λ (left : ℕ → Bool). AreSplit pdos (λ k. nat_lt k pdos) first left) nothing filled.split;
        upper_passes = subst (λ (left : ℕ → Bool). PassInTurn first_range.least rate streams pdos left first) nothing filled.passes;
        upper_later = subst (λ (left : ℕ → Bool). LaterFail first_range.least rate streams pdos left first) nothing filled.later;
      }

  module _ (second third : List ℕ) (top left : ℕ → Bool)
      (lower : pdos ≤ second_range.count → IsFilled second_range.least rate streams pdos (λ k. nat_lt k pdos) second top)
      (upper : IsFilled first_range.least rate streams pdos (kept pdos top) third left) where
    -- a refilling of the first range by the kept PDOs leaves none
    pub none_left_above : ((k : ℕ) → k < pdos → stuck k ≡ false) → (k : ℕ) → k < pdos → left k ≡ false
    none_left_above none k below = go (cases_Bool (left k))
      where
        greatest : (k : ℕ) → k < pdos → left k ≡ true → stuck k ≡ true
        greatest = (left_is_greatest first_range.least rate streams pdos count (λ k. nat_lt k pdos) stuck first filled.split filled.passes filled.stuck).greatest left upper.stuck
            (λ p inside m. lt-ltb p pdos inside)

        go : (left k ≡ true) ⊎ (left k ≡ false) → left k ≡ false
        go (inl m) = absurd (no_bit (stuck k) (greatest k below m) (none k below))
        go (inr e) = e

    -- the identifiers by the two fillings
    abbrev pub ids_planned : ℕ → ℕ
    ids_planned = ids_in_ranges (if nat_le pdos second_range.count then second else []) third

    pub fillings_placed : ((k : ℕ) → k < pdos → stuck k ≡ false) → ArePlaced rate streams pdos (kept pdos top) (if nat_le pdos second_range.count then second else []) third
    fillings_placed none = go (cases_lt second_range.count pdos)
      where
        nothing : left ≡ (λ (k : ℕ). false)
        nothing = none_taken pdos left upper.split.bounded (none_left_above none)

        placed : (list : List ℕ) → ((k : ℕ) → is_listed list k ≡ true → pdos ≤ second_range.count) → AreSplit pdos (λ k. nat_lt k pdos) list (kept pdos top)
            → PassInTurn second_range.least rate streams pdos (kept pdos top) list → LaterFail second_range.least rate streams pdos (kept pdos top) list → ArePlaced rate streams pdos (kept pdos top) list third
        placed list room split passes later = record {
          room = room;
          lower_split = split;
          lower_passes = passes;
          lower_later = later;
          upper_split = subst (λ (rest : ℕ → Bool). AreSplit pdos (kept pdos top) third rest) nothing upper.split;
          upper_passes = subst (λ (rest : ℕ → Bool). PassInTurn first_range.least rate streams pdos rest third) nothing upper.passes;
          upper_later = subst (λ (rest : ℕ → Bool). LaterFail first_range.least rate streams pdos rest third) nothing upper.later;
        }

        go : (second_range.count < pdos) ⊎ (pdos ≤ second_range.count) → ArePlaced rate streams pdos (kept pdos top) (if nat_le pdos second_range.count then second else []) third
        go (inl many) =
            subst (λ (list : List ℕ). ArePlaced rate streams pdos (kept pdos top) list third) (sym (cond-false (nat_le pdos second_range.count) second [] (lt-leb pdos second_range.count many)))
            (placed [] (λ k m. absurd (no_bit false m refl)) (subst (λ (up : ℕ → Bool). AreSplit pdos (λ k. nat_lt k pdos) [] up) (kept_many pdos top many) (all_kept pdos)) tt tt)
        go (inr room) =
            let here = lower room in
            subst (λ (list : List ℕ). ArePlaced rate streams pdos (kept pdos top) list third) (sym (cond-true (nat_le pdos second_range.count) second [] (le-leb pdos second_range.count room)))
            (placed second (λ k m. room)
            (subst (λ (up : ℕ → Bool). AreSplit pdos (λ k. nat_lt k pdos) second up) (kept_few pdos top room) here.split)
            (subst (λ (up : ℕ → Bool). PassInTurn second_range.least rate streams pdos up second) (kept_few pdos top room) here.passes)
            (subst (λ (up : ℕ → Bool). LaterFail second_range.least rate streams pdos up second) (kept_few pdos top room) here.later))

    pub fillings_pass : ((k : ℕ) → k < pdos → stuck k ≡ false) → ((f : ℕ) → IsTested streams pdos f → PassesBelow rate streams pdos (kept pdos top) f) → IsPassing rate streams pdos ids_planned
    fillings_pass none frames =
        placed_pass rate streams pdos (kept pdos top) (if nat_le pdos second_range.count then second else []) third count few (fillings_placed none) outside_first outside_second frames

    pub some_pass_exactly : ((ids : ℕ → ℕ) × IsPassing rate streams pdos ids)
        ↔ (((k : ℕ) → k < pdos → stuck k ≡ false) × ((f : ℕ) → IsTested streams pdos f → PassesBelow rate streams pdos (kept pdos top) f))
    some_pass_exactly = (
      λ some. (
        λ k below. none some k below (cases_Bool (stuck k)),
        λ f tested. frame_passes rate streams pdos top count (λ room. (lower room).stuck) some.0 some.1 f tested,
      ),
      λ both. (ids_planned, fillings_pass both.0 both.1),
    )
      where
        none : (ids : ℕ → ℕ) × IsPassing rate streams pdos ids → (k : ℕ) → k < pdos → (stuck k ≡ true) ⊎ (stuck k ≡ false) → stuck k ≡ false
        none some k below (inl m) = absurd (none_stuck rate streams pdos stuck some.0 count filled.stuck some.1 k below m)
        none some k below (inr e) = e
