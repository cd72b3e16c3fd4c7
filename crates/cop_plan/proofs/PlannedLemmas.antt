-- The plan of two fillings.
use Rattle.std.proofs.Common.{◌≡◌, ◌≢◌, ◌<◌, ◌≤◌, ◌+◌, ◌⊎◌, inl, inr, ℕ, zero, suc, Bool, true, false, ◌==◌, nat_lt, nat_le, List, [], ◌∷◌, ◌++◌, length, get_or, reverse, Option, All, AllPairs, refl, sym, ap, subst, ◌∙◌, arith}
use Rattle.std.proofs.lemmas.Bool.{cases_Bool, cases_lt, lt-ltb, le-ltb, lt-leb, cond-false, eq-eqb, ne_eqb, or_left, or_right}
use Rattle.std.proofs.lemmas.List.{length-reverse, reverse-append}
use Rattle.cop_frame.specs.declared.rates.Rate.{Rate}
use Rattle.cop_rta.specs.declared.streams.Stream.{Stream}
use Rattle.cop_rta.specs.Ranges.{first_range, second_range, IsPermitted}
use Rattle.cop_rta.specs.Sums.{sum_where}
use Rattle.cop_rta.specs.Test.{Passes, place_among}
use Rattle.cop_cert.specs.declared.refusals.Refusal.{Refusal}
use Rattle.cop_cert.specs.Assignments.{least_id, IsAssignment, IsPassing, id_under, place_under}
use Rattle.cop_cert.specs.Causes.{kept}
use Rattle.cop_cert.specs.Evidence.{is_listed}
use Rattle.cop_cert.specs.Sets.{is_in_trial, IsGreatestStuckSet}
use Rattle.cop_cert.proofs.AboveLemmas.{trial_of_pdo, trial_of_fixed}
use Rattle.cop_plan.specs.Fillings.{AreDistinct, ArePlaced, number, ids_in_ranges}
use Rattle.cop_plan.specs.declared.choices.Kept.{Kept}
use Rattle.cop_plan.specs.Caps.{cap_of, capped}
use Rattle.cop_plan.specs.Margins.{IsOrderTo}
use Rattle.cop_plan.specs.Orders.{FramesPass, IsUpper, IsOrderOf, IsPlanOrder, IsByPriority, from_place, least_of_part, is_part, in_first, id_at_place}
use Rattle.cop_plan.specs.Plans.{CanAssign}
use Rattle.cop_plan.specs.Planned.{IsPlanned}
use Rattle.cop_plan.specs.Values.{id_of, HaveIds, HasTested}
use Rattle.cop_plan.proofs.FillingLemmas.{no_bit, rank_below}
use Rattle.cop_plan.proofs.GreedyLemmas.{count_less, count_alike}
use Rattle.cop_plan.proofs.RangePassLemmas.{number_most}
use Rattle.cop_plan.proofs.SamePlace.{same_length}
use Rattle.cop_plan.proofs.MarginLemmas.{passing_before}
use Rattle.cop_plan.proofs.OrderLemmas.{order_inside, order_distinct, whole_of_placed, in_upper, lower_id, upper_id, ids_by_rank}
use Rattle.cop_plan.proofs.RenameLemmas.{AreApart, id_of_pdo, id_of_fixed, apart_from_fixed, none_lower, outside_renamed, still_tested, on_time_renamed, synced_renamed}

-- ---- the order of a plan asks identifiers of PDOs alone

module _ (streams : List Stream) (pdos : ℕ) (ids other : ℕ → ℕ) (same : (k : ℕ) → k < pdos → ids k ≡ other k) where
  under_same : id_under streams pdos ids ≡ id_under streams pdos other
  under_same = λ i k. go k (cases_lt k pdos) i
    where
      go : (k : ℕ) → (k < pdos) ⊎ (pdos ≤ k) → id_under streams pdos ids k ≡ id_under streams pdos other k
      go k (inl h) = id_of_pdo streams pdos ids k h ∙ same k h ∙ sym (id_of_pdo streams pdos other k h)
      go k (inr h) = id_of_fixed streams pdos ids k h ∙ sym (id_of_fixed streams pdos other k h)

  trial_same : (bound p : ℕ) → p < pdos → is_in_trial bound streams pdos (from_place ids p) ≡ is_in_trial bound streams pdos (from_place other p)
  trial_same bound p low = λ i k. go k (cases_lt k pdos) i
    where
      go : (k : ℕ) → (k < pdos) ⊎ (pdos ≤ k) → is_in_trial bound streams pdos (from_place ids p) k ≡ is_in_trial bound streams pdos (from_place other p) k
      go k (inl h) = trial_of_pdo streams pdos bound (from_place ids p) k h
          ∙ ap (λ (n : ℕ). nat_le n (ids p)) (same k h) ∙ ap (λ (n : ℕ). nat_le (other k) n) (same p low)
          ∙ sym (trial_of_pdo streams pdos bound (from_place other p) k h)
      go k (inr h) = trial_of_fixed streams pdos bound (from_place ids p) k h ∙ sym (trial_of_fixed streams pdos bound (from_place other p) k h)

  module _ (rate : Rate) where
    place_same : (k : ℕ) → Passes (place_under rate streams pdos ids k) → Passes (place_under rate streams pdos other k)
    place_same k passes = subst (λ (under : ℕ → ℕ). Passes (place_among streams (λ j. nat_lt (under j) (under k)) k rate)) under_same passes

    order_of_same : (up : ℕ → Bool) → IsOrderOf rate streams pdos up ids → IsOrderOf rate streams pdos up other
    order_of_same up order = record {
      low = λ p h. omega (arith, order.low p h, same p h);
      high = λ p h. omega (arith, order.high p h, same p h);
      distinct = λ p r h g e. order.distinct p r h g (same p h ∙ e ∙ sym (same r g));
      full = λ p h i few. let found = order.full p h i few in (found.0, found.1, found.2, sym (same found.0 found.1) ∙ found.3);
      passes = record {
        each = λ p h. place_same p (order.passes.each p h);
        frames = λ f tested. place_same f (order.passes.frames f tested);
      };
      later = λ p r h g part row lt passes.
          order.later p r h g part row (omega (arith, lt, same p h, same r g))
          (subst (λ (above : ℕ → Bool). Passes (place_among streams above r rate)) (sym (trial_same (least_of_part (up p)) p h)) passes);
    }

    pub plan_order_same : IsPlanOrder rate streams pdos ids → IsPlanOrder rate streams pdos other
    plan_order_same order = (order.0, order.1, order_of_same order.0 order.2)

-- ---- it is a passing assignment

module _ (rate : Rate) (streams : List Stream) (pdos : ℕ) (ids : ℕ → ℕ) (few : pdos ≤ 512) where
  -- what stands in the second range stands there since it has room for all
  room_below : (up : ℕ → Bool) → IsUpper rate streams pdos up → (p : ℕ) → p < pdos → up p ≡ false → pdos ≤ second_range.count
  room_below up upper p h e = go upper.cases
    where
      above : ((k : ℕ) → k < pdos → up k ≡ true) → pdos ≤ second_range.count
      above all = absurd (no_bit (up p) (all p h) e)

      room : (top : ℕ → Bool) → up p ≡ kept pdos top p → (second_range.count < pdos) ⊎ (pdos ≤ second_range.count) → pdos ≤ second_range.count
      room top same (inr le) = le
      room top same (inl more) =
          absurd (no_bit (up p) (same ∙ cond-false (nat_le pdos second_range.count) (top p) (nat_lt p pdos) (lt-leb pdos second_range.count more) ∙ lt-ltb p pdos h) e)

      go : (FramesPass rate streams pdos (λ k. nat_lt k pdos) × ((k : ℕ) → k < pdos → up k ≡ true))
          ⊎ ((FramesPass rate streams pdos (λ k. nat_lt k pdos) → ⊥)
          × (top : ℕ → Bool) × (pdos ≤ second_range.count → IsGreatestStuckSet second_range.least rate streams pdos (λ k. nat_lt k pdos) top) × ((k : ℕ) → k < pdos → up k ≡ kept pdos top k))
          → pdos ≤ second_range.count
      go (inl pass) = above pass.1
      go (inr fail) = room fail.1 (fail.3 p h) (cases_lt second_range.count pdos)

  pub order_assigns : IsPlanOrder rate streams pdos ids → IsAssignment pdos ids
  order_assigns order = record { permitted = λ p h. part p h (cases_Bool (order.0 p)); distinct = order.2.distinct }
    where
      part : (p : ℕ) → p < pdos → (order.0 p ≡ true) ⊎ (order.0 p ≡ false) → IsPermitted pdos (ids p)
      part p h (inl e) =
          let low : first_range.least ≤ ids p = rw e at (order.2.low p h) in
          let high : ids p < first_range.least + number pdos (is_part order.0 true) = rw e at (order.2.high p h) in
          inl (low, omega (arith, high, few, number_most pdos (is_part order.0 true)))
      part p h (inr e) =
          let low : second_range.least ≤ ids p = rw e at (order.2.low p h) in
          let high : ids p < second_range.least + number pdos (is_part order.0 false) = rw e at (order.2.high p h) in
          let room : pdos ≤ second_range.count = room_below order.0 order.1 p h e in
          inr (room, (low, omega (arith, high, room, number_most pdos (is_part order.0 false))))

  pub order_passes : IsPlanOrder rate streams pdos ids → IsPassing rate streams pdos ids
  order_passes order = (order_assigns order, order.2.passes)

-- ---- the order as a list

number_none : (n : ℕ) → number n (is_listed []) ≡ 0
unfolding sum_where
number_none zero = refl
number_none (suc n) = omega (arith, number_none n)

-- a list without repetition has as many PDOs as it is long
number_listed : (pdos : ℕ) (fill : List ℕ) → AreDistinct fill → ((k : ℕ) → is_listed fill k ≡ true → k < pdos) → number pdos (is_listed fill) ≡ length fill
number_listed pdos [] d inside = number_none pdos
number_listed pdos (p ∷ rest) d inside =
    let here : is_listed (p ∷ rest) p ≡ true = or_left (p == p) (is_listed rest p) (eq-eqb p p refl) in
    let less : suc (number pdos (is_listed rest)) ≡ number pdos (is_listed (p ∷ rest)) =
    count_less pdos p (is_listed (p ∷ rest)) (is_listed rest) (inside p here) here d.0 (λ k other. rw (ne_eqb p k (λ e. other (sym e))) refl) in
    omega (arith, less, number_listed pdos rest d.1 (λ k m. inside k (or_right (p == k) (is_listed rest k) m)))

module _ (pdos : ℕ) (lower upper : List ℕ) (placed : ArePlaced pdos lower upper) where
  module _ (order : List ℕ) (e : order ≡ reverse upper ++ reverse lower) where
    one_list : order ≡ reverse (lower ++ upper)
    one_list = e ∙ sym (reverse-append lower upper)

    pub order_count : length order ≡ pdos
    order_count = omega (arith, ap length one_list, length-reverse (lower ++ upper), (whole_of_placed pdos lower upper placed).count)

    pub order_room : length order ≤ length upper + second_range.count
    order_room = omega (arith, order_count, placed.count, placed.room)

    places_inside : All (λ p. p < pdos) order
    places_inside = rw one_list (order_inside pdos (lower ++ upper) (whole_of_placed pdos lower upper placed))

    pub order_inside_length : All (λ p. p < length order) order
    order_inside_length = λ k d h. omega (arith, places_inside k d h, order_count)

    pub places_distinct : AllPairs (λ p r. p ≢ r) order
    places_distinct = rw one_list (order_distinct pdos (lower ++ upper) (whole_of_placed pdos lower upper placed))

  module _ (few : pdos ≤ 512) (ids : ℕ → ℕ) (same : (p : ℕ) → p < pdos → ids p ≡ ids_in_ranges lower upper p) where
    in_lower : (p : ℕ) → p < pdos → second_range.least ≤ ids p → is_listed lower p ≡ true
    in_lower p h high = go (cases_Bool (is_listed lower p))
      where
        go : (is_listed lower p ≡ true) ⊎ (is_listed lower p ≡ false) → is_listed lower p ≡ true
        go (inl m) = m
        go (inr m) = absurd (omega (arith, high, same p h, upper_id pdos lower upper placed p m, rank_below upper p (in_upper pdos lower upper placed p h m), placed.count, few))

    -- an identifier of the second range tells that its filling is not empty
    pub some_lower : (p : ℕ) → p < pdos → second_range.least ≤ ids p → 1 ≤ length lower
    some_lower p h high = omega (arith, rank_below lower p (in_lower p h high))

    first_number : in_first pdos ids ≡ length upper
    first_number =
        count_alike pdos (λ p. nat_lt (ids p) second_range.least) (is_listed upper) (λ p h. part p h (cases_Bool (is_listed lower p)))
        ∙ number_listed pdos upper placed.distinct_upper placed.inside_upper
      where
        part : (p : ℕ) → p < pdos → (is_listed lower p ≡ true) ⊎ (is_listed lower p ≡ false) → nat_lt (ids p) second_range.least ≡ is_listed upper p
        part p h (inl m) = le-ltb (ids p) second_range.least (omega (arith, same p h, lower_id pdos lower upper placed p m)) ∙ sym (placed.apart p m)
        part p h (inr m) =
            let there : is_listed upper p ≡ true = in_upper pdos lower upper placed p h m in
            lt-ltb (ids p) second_range.least (omega (arith, same p h, upper_id pdos lower upper placed p m, rank_below upper p there, placed.count, few)) ∙ sym there

    pub priority_of_places : (order : List ℕ) → order ≡ reverse upper ++ reverse lower → ((i : ℕ) → i < length order → ids (get_or order i 0) ≡ id_at_place (length upper) i) → IsByPriority pdos ids order
    priority_of_places order e places = record {
      count = order_count order e;
      inside = places_inside order e;
      places = λ i h. places i (omega (arith, h, order_count order e)) ∙ ap (λ (n : ℕ). id_at_place n i) (sym first_number);
    }

-- ---- the plan

-- what is known where the plan of two fillings is made: the fillings, the PDOs by priority, and their identifiers
pub record HasPlaces (margin : ℕ) (rate : Rate) (streams : List Stream) (pdos : ℕ) (lower upper order ids : List ℕ) : Type 0 where
  pub can : CanAssign streams pdos
  pub placed : ArePlaced pdos lower upper
  pub plan : IsOrderTo margin rate streams pdos (ids_in_ranges lower upper)
  pub listed : order ≡ reverse upper ++ reverse lower
  pub count : length ids ≡ length order
  pub places : (i : ℕ) → i < length order → id_of ids (get_or order i 0) ≡ id_at_place (length upper) i

module _ {margin : ℕ} {rate : Rate} {streams : List Stream} {pdos : ℕ} {lower upper order ids : List ℕ} (has : HasPlaces margin rate streams pdos lower upper order ids) where
  same_ids : (p : ℕ) → p < pdos → id_of ids p ≡ ids_in_ranges lower upper p
  same_ids = ids_by_rank pdos lower upper has.placed order ids has.listed has.places

  pub ids_count : length ids ≡ pdos
  ids_count = has.count ∙ order_count pdos lower upper has.placed order has.listed

  order_lowered : IsPlanOrder rate has.plan.0 pdos (id_of ids)
  order_lowered = plan_order_same has.plan.0 pdos (ids_in_ranges lower upper) (id_of ids) (λ p h. sym (same_ids p h)) rate has.plan.2

  pub order_of_places : IsOrderTo margin rate streams pdos (id_of ids)
  order_of_places = (has.plan.0, has.plan.1, order_lowered)

  pub passing_of_places : IsPassing rate streams pdos (id_of ids)
  passing_of_places = passing_before (capped margin (cap_of rate streams pdos)) streams has.plan.0 has.plan.1 rate pdos (id_of ids) (order_passes rate has.plan.0 pdos (id_of ids) has.can.few order_lowered)

  pub by_priority_of_places : IsByPriority pdos (id_of ids) order
  by_priority_of_places = priority_of_places pdos lower upper has.placed has.can.few (id_of ids) same_ids order has.listed has.places

  pub apart_of_places : AreApart streams (length ids) (id_of ids)
  apart_of_places = rw ids_count (apart_from_fixed streams pdos (id_of ids) passing_of_places.0 has.can.outside_first has.can.outside_second)

  pub have_of_places : (renamed : List Stream) → HaveIds streams (length ids) (id_of ids) renamed → HaveIds streams pdos (id_of ids) renamed
  have_of_places renamed have = rw ids_count at have

  low : (p : ℕ) → p < pdos → least_id ≤ id_of ids p
  low = none_lower pdos (id_of ids) passing_of_places.0

  module _ (renamed : List Stream) (given : HaveIds streams (length ids) (id_of ids) renamed) where
    have : HaveIds streams pdos (id_of ids) renamed
    have = have_of_places renamed given

    pub planned_of_places : (chosen : Option Kept) (refusals : List Refusal) → (1 ≤ length lower → HasTested streams pdos)
        → IsPlanned (record { rate = rate; order = order; ids = ids; margin = chosen; refusals = refusals; streams = renamed })
    planned_of_places chosen refusals tested =
        let size : length renamed ≡ length streams = same_length renamed streams have.timings in
        record {
          count = omega (arith, size, ids_count, has.can.count);
          few = omega (arith, ids_count, has.can.few);
          its = λ p h.
              let below : p < pdos = omega (arith, h, ids_count) in
              have.each p (omega (arith, below, has.can.count)) ∙ id_of_pdo streams pdos (id_of ids) p below;
          assigned = rw ids_count passing_of_places.0;
          lower = λ p h high.
              let some = tested (some_lower pdos lower upper has.placed has.can.few (id_of ids) same_ids p (omega (arith, h, ids_count)) high) in
              rw ids_count (some.0, still_tested rate streams renamed pdos (id_of ids) have some.0 some.1);
          outside_first = rw ids_count (outside_renamed rate streams renamed pdos (id_of ids) have first_range has.can.outside_first);
          outside_second = rw ids_count (outside_renamed rate streams renamed pdos (id_of ids) have second_range has.can.outside_second);
          by_priority = rw ids_count by_priority_of_places;
          on_time = rw ids_count (on_time_renamed rate streams renamed pdos (id_of ids) have has.can.count has.can.deadlines has.can.provisional low passing_of_places.1);
          synced = synced_renamed rate streams renamed pdos (id_of ids) have has.can.provisional low has.can.synced;
        }
