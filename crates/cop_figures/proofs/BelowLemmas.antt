-- SDO frames with all PDOs above them, and why PDOs stand below them.
use Rattle.std.proofs.Common.{◌≡◌, ℕ, zero, suc, ◌+◌, ◌<◌, ◌≤◌, ◌⊎◌, inl, inr, Bool, true, nat_lt, List, length, get_or, slice_get, Option, Some, None, Any, refl, sym, ◌∙◌, subst, arith}
use Rattle.std.proofs.lemmas.Bool.{cases_lt, lt-ltb}
use Rattle.std.proofs.lemmas.List.{get_or_default}
use Rattle.std.proofs.lemmas.Option.{slice_get_cases}
use Rattle.cop_frame.specs.declared.rates.Rate.{Rate}
use Rattle.cop_rta.specs.declared.streams.Stream.{Stream}
use Rattle.cop_rta.specs.declared.verdicts.Verdict.{Verdict}
use Rattle.cop_rta.specs.declared.verdicts.Verdict.TheVariants.{Pass, Late, Long}
use Rattle.cop_rta.specs.Ranges.{second_range}
use Rattle.cop_rta.specs.Test.{Passes, has_lower_id, place_among, place_by_id}
use Rattle.cop_rta.specs.Verdict.{IsJudged, IsPass}
use Rattle.cop_rta.proofs.VerdictLemmas.{pass_iff}
use Rattle.cop_cert.specs.Assignments.{id_at, IsSdo, IsTested}
use Rattle.cop_cert.specs.Sets.{is_in_trial}
use Rattle.cop_cert.proofs.AboveLemmas.{id_of_fixed, trial_of_pdo, trial_of_fixed}
use Rattle.cop_plan.specs.Fillings.{number}
use Rattle.cop_plan.specs.declared.choices.Kept.{Kept}
use Rattle.cop_plan.specs.Margins.{IsChosenOrder}
use Rattle.cop_plan.specs.Orders.{FramesPass, IsPlanOrder, least_of_part, is_part}
use Rattle.cop_plan.specs.Values.{PlanValue, id_of, HaveIds}
use Rattle.cop_plan.proofs.RangePassLemmas.{number_most}
use Rattle.cop_plan.proofs.RenameLemmas.{still_tested}
use Rattle.cop_plan.proofs.SamePlace.{same_length}
use Rattle.cop_figures.specs.declared.frames.FrameTimes.{FrameTimes}
use Rattle.cop_figures.specs.Frames.{place_below_all, IsFrameTimed, AreFrames, TellsWhy}

-- where all PDOs have lower identifiers than an SDO frame, these are above it
module _ (streams : List Stream) (pdos : ℕ) (inside : pdos ≤ length streams) (low : (k : ℕ) → k < pdos → id_at streams k < 0x581) (frame : ℕ) (sdo : 0x581 ≤ id_at streams frame) where
  pdo_above : (k : ℕ) → k < pdos
      → ((s : Stream) × (k < length streams) × (slice_get streams k ≡ Some s) × (get_or streams k s ≡ s)) ⊎ ((length streams ≤ k) × (slice_get streams k ≡ None))
      → has_lower_id streams frame k ≡ true
  pdo_above k pdo (inl found) =
      let its : id_at streams k ≡ found.0.id = rw found.2 refl in
      let test : has_lower_id streams frame k ≡ nat_lt found.0.id (id_at streams frame) = rw found.2 refl in
      test ∙ lt-ltb found.0.id (id_at streams frame) (omega (arith, its, low k pdo, sdo))
  pdo_above k pdo (inr past) = absurd (omega (arith, pdo, past.0, inside))

  all_above : (k : ℕ) → has_lower_id streams frame k ≡ is_in_trial (id_at streams frame) streams pdos (λ p. nat_lt p pdos) k
  all_above k = go (cases_lt k pdos)
    where
      go : (k < pdos) ⊎ (pdos ≤ k) → has_lower_id streams frame k ≡ is_in_trial (id_at streams frame) streams pdos (λ p. nat_lt p pdos) k
      go (inl pdo) = pdo_above k pdo (slice_get_cases streams k).1 ∙ sym (trial_of_pdo streams pdos (id_at streams frame) (λ p. nat_lt p pdos) k pdo ∙ lt-ltb k pdos pdo)
      go (inr fixed) = sym (trial_of_fixed streams pdos (id_at streams frame) (λ p. nat_lt p pdos) k fixed)

  judged_below_all : (rate : Rate) (v : Verdict) → IsJudged (place_by_id streams frame rate) v → IsJudged (place_below_all streams pdos rate frame) v
  judged_below_all rate v judged =
      let tests : has_lower_id streams frame ≡ is_in_trial (id_at streams frame) streams pdos (λ p. nat_lt p pdos) = λ i k. all_above k i in
      subst (λ (test : ℕ → Bool). IsJudged (place_among streams test frame rate) v) tests judged

least_sdo : (id : ℕ) → IsSdo id → 0x581 ≤ id
least_sdo id (inl response) = response.0
least_sdo id (inr request) = omega (arith, request.0)

pass_or_not : (v : Verdict) → IsPass v ⊎ (IsPass v → ⊥)
pass_or_not (Pass response) = inl tt
pass_or_not (Late q response) = inr (λ h. h)
pass_or_not Long = inr (λ h. h)

-- of the first n frames some fails below all PDOs, or each passes
some_fails : (frames : List FrameTimes) (n : ℕ) → n ≤ length frames
    → Any (λ t. IsPass t.below_all → ⊥) frames ⊎ ((k : ℕ) (d : FrameTimes) → k < n → IsPass (get_or frames k d).below_all)
some_fails frames zero h = inr (λ k d low. absurd (omega (arith, low)))
some_fails frames (suc n) h = go (some_fails frames n (omega (arith, h)))
  where
    next : ((k : ℕ) (d : FrameTimes) → k < n → IsPass (get_or frames k d).below_all) → (t : FrameTimes) → n < length frames → get_or frames n t ≡ t → IsPass t.below_all ⊎ (IsPass t.below_all → ⊥)
        → Any (λ t. IsPass t.below_all → ⊥) frames ⊎ ((k : ℕ) (d : FrameTimes) → k < suc n → IsPass (get_or frames k d).below_all)
    next before t inside here (inr fails) = inl (n, t, inside, here, fails)
    next before t inside here (inl pass) = inr (λ k d low. at k d low (cases_lt k n))
      where
        at : (k : ℕ) (d : FrameTimes) → k < suc n → (k < n) ⊎ (n ≤ k) → IsPass (get_or frames k d).below_all
        at k d low (inl earlier) = before k d earlier
        at k d low (inr last) =
            let same : n ≡ k = omega (arith, low, last) in
            subst (λ (j : ℕ). IsPass (get_or frames j d).below_all) same
            (subst (λ (u : FrameTimes). IsPass u.below_all) (sym (get_or_default frames n d t inside ∙ here)) pass)

    found : ((k : ℕ) (d : FrameTimes) → k < n → IsPass (get_or frames k d).below_all)
        → ((t : FrameTimes) × (n < length frames) × (slice_get frames n ≡ Some t) × (get_or frames n t ≡ t)) ⊎ ((length frames ≤ n) × (slice_get frames n ≡ None))
        → Any (λ t. IsPass t.below_all → ⊥) frames ⊎ ((k : ℕ) (d : FrameTimes) → k < suc n → IsPass (get_or frames k d).below_all)
    found before (inl t) = next before t.0 t.1 t.3 (pass_or_not t.0.below_all)
    found before (inr past) = absurd (omega (arith, h, past.0))

    go : Any (λ t. IsPass t.below_all → ⊥) frames ⊎ ((k : ℕ) (d : FrameTimes) → k < n → IsPass (get_or frames k d).below_all)
        → Any (λ t. IsPass t.below_all → ⊥) frames ⊎ ((k : ℕ) (d : FrameTimes) → k < suc n → IsPass (get_or frames k d).below_all)
    go (inl some) = inl some
    go (inr before) = found before (slice_get_cases frames n).1

module _ (streams : List Stream) (plan : PlanValue) (have : HaveIds streams (length plan.ids) (id_of plan.ids) plan.streams) where
  -- in the network's streams each PDO has an identifier below those of SDO frames
  pub frame_below_all : ((k : ℕ) → k < length plan.ids → id_at streams k < 0x581) → (f : ℕ) → IsTested plan.streams (length plan.ids) f → (v : Verdict)
      → IsJudged (place_by_id streams f plan.rate) v → IsJudged (place_below_all streams (length plan.ids) plan.rate f) v
  frame_below_all low f tested v judged =
      let same : length plan.streams ≡ length streams = same_length plan.streams streams have.timings in
      let inside : f < length streams = omega (arith, tested.inside, same) in
      let its : id_at plan.streams f ≡ id_at streams f = have.each f inside ∙ id_of_fixed streams (length plan.ids) (id_of plan.ids) f tested.fixed in
      let sdo : 0x581 ≤ id_at streams f = omega (arith, its, least_sdo (id_at plan.streams f) tested.sdo) in
      judged_below_all streams (length plan.ids) (omega (arith, tested.fixed, inside)) low f sdo plan.rate v judged

  -- where each SDO frame with a deadline passes below all PDOs, no PDO has an identifier of the second range
  needs_none : length plan.ids ≤ 512 → IsPlanOrder plan.rate streams (length plan.ids) (id_of plan.ids) → (p : ℕ) → p < length plan.ids → second_range.least ≤ id_of plan.ids p
      → FramesPass plan.rate streams (length plan.ids) (λ k. nat_lt k (length plan.ids)) → ⊥
  needs_none few order p h second pass = elim order.1.cases as (λ _. ⊥) [
    | inl all ↦
        let high : id_of plan.ids p < least_of_part true + number (length plan.ids) (is_part order.0 true) = rw (all.1 p h) at (order.2.high p h) in
        omega (arith, high, second, few, number_most (length plan.ids) (is_part order.0 true))
    | inr kept ↦ kept.0 pass
  ]

  frames_pass : (frames : List FrameTimes) → AreFrames streams plan frames → ((k : ℕ) (d : FrameTimes) → k < length frames → IsPass (get_or frames k d).below_all)
      → FramesPass plan.rate streams (length plan.ids) (λ k. nat_lt k (length plan.ids))
  frames_pass frames are pass f tested =
      let found = are.every f (still_tested plan.rate streams plan.streams (length plan.ids) (id_of plan.ids) have f tested) in
      let timed : IsFrameTimed streams plan found.1 = subst (IsFrameTimed streams plan) found.3 (are.each found.0 found.1 found.2) in
      let passes : IsPass found.1.below_all = subst (λ (t : FrameTimes). IsPass t.below_all) found.3 (pass found.0 found.1 found.2) in
      let there : Passes (place_below_all streams (length plan.ids) plan.rate found.1.place) =
      (pass_iff (place_below_all streams (length plan.ids) plan.rate found.1.place) found.1.below_all timed.below_all).0 passes in
      subst (λ (k : ℕ). Passes (place_below_all streams (length plan.ids) plan.rate k)) found.4 there

  pub tells_why : length plan.ids ≤ 512 → IsChosenOrder plan.margin plan.rate streams (length plan.ids) (id_of plan.ids) → (frames : List FrameTimes) → AreFrames streams plan frames → TellsWhy plan frames
  tells_why few chosen frames are plain p h second = go (some_fails frames (length frames) (omega arith))
    where
      order : IsPlanOrder plan.rate streams (length plan.ids) (id_of plan.ids)
      order = subst (λ (margin : Option Kept). IsChosenOrder margin plan.rate streams (length plan.ids) (id_of plan.ids)) plain chosen

      go : Any (λ t. IsPass t.below_all → ⊥) frames ⊎ ((k : ℕ) (d : FrameTimes) → k < length frames → IsPass (get_or frames k d).below_all) → Any (λ t. IsPass t.below_all → ⊥) frames
      go (inl some) = some
      go (inr pass) = absurd (needs_none few order p h second (frames_pass frames are pass))
