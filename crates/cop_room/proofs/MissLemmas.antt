-- Longer deadlines, and plans that are made with them.
use Rattle.std.proofs.Common.{◌≡◌, ◌∙◌, ℕ, ◌+◌, ◌-◌, ◌*◌, ◌/◌, ◌<◌, ◌≤◌, max, min, false, List, [], length, get_or, unwrap_or, Option, Some, None, is_some, MatchOption, Contains, sym, ap, subst, arith, le_refl, true≢false, ⊎_elim}
use Rattle.std.specs.Int.{div_ceil}
use Rattle.std.proofs.lemmas.Bool.{cases_lt}
use Rattle.std.proofs.lemmas.List.Elements.{at_from_Contains}
use Rattle.cop_frame.specs.declared.rates.Rate.{Rate}
use Rattle.cop_rta.specs.declared.streams.Stream.{Stream}
use Rattle.cop_rta.specs.declared.verdicts.Verdict.{Verdict}
use Rattle.cop_rta.specs.declared.verdicts.Verdict.TheVariants.{Pass, Late, Long}
use Rattle.cop_rta.specs.CeilLemmas.{div_ceil-reaches, div_ceil-least}
use Rattle.cop_rta.specs.Greatest.{HasGreatest}
use Rattle.cop_rta.specs.Test.{StreamPlace, Passes, place_by_id, deadline_at}
use Rattle.cop_rta.specs.Verdict.{IsJudged, PassesBy, response_of}
use Rattle.cop_rta.proofs.GreatestLemmas.{greatest_response_is, same_response}
use Rattle.cop_rta.proofs.VerdictLemmas.{pass_iff}
use Rattle.cop_cert.specs.Assignments.{IsPassing, NoAssignmentPasses}
use Rattle.cop_plan.specs.declared.choices.Kept.{Kept}
use Rattle.cop_plan.specs.Caps.{deadline_of}
use Rattle.cop_plan.specs.Margins.{IsChosenOrder, Leaves}
use Rattle.cop_plan.specs.Orders.{IsPlanOrder}
use Rattle.cop_plan.specs.Plans.{CanAssign, IsPlan}
use Rattle.cop_plan.specs.Values.{PlanValue, AreOnTime, id_of}
use Rattle.cop_room.specs.Changes.{AreChanged, with_deadlines}
use Rattle.cop_room.specs.Keeping.{CanBePlanned, Holds, Fails, IsLeastLimit}
use Rattle.cop_room.specs.Misses.{NoneStretches, IsTightest, IsStretch}
use Rattle.cop_room.specs.Planning.{IsPlannedAt, IsPlannedWith, left_in}
use Rattle.cop_room.proofs.ChangeLemmas.{deadlines_by, deadlines_harder}
use Rattle.cop_room.proofs.KeptLemmas.{can_assign_longer}
use Rattle.cop_room.proofs.LimitLemmas.{no_harder, anew_falls, least_anew}
use Rattle.cop_room.proofs.TrialLemmas.{IsBetween, go_down, go_up, ends_below, ends_nowhere}

-- ---- plans that are made

pub no_member : (r : Rate) → Contains [] r → ⊥
no_member r member = let at = at_from_Contains [] r member in omega (arith, at.1)

chosen : (o : Option Kept) (rate : Rate) (streams : List Stream) (pdos : ℕ) (ids : ℕ → ℕ) → is_some o ≡ false → IsChosenOrder o rate streams pdos ids → IsPlanOrder rate streams pdos ids
chosen None rate streams pdos ids none order = order
chosen (Some kept) rate streams pdos ids none order = absurd (true≢false none)

pub planned_is : (rates : List Rate) (rate : Rate) (streams : List Stream) (pdos : ℕ) (plan : PlanValue) → ((r : Rate) → Contains rates r → r ≡ rate) → is_some plan.margin ≡ false → IsPlan rates streams pdos plan
    → IsPlannedAt rate streams pdos plan
planned_is rates rate streams pdos plan only none is =
    let its : plan.rate ≡ rate = only plan.rate is.candidate in
    record {
      rate_is = its;
      count = is.count;
      passing = subst (λ r. IsPassing r streams pdos (id_of plan.ids)) its is.passing;
      order = subst (λ r. IsPlanOrder r streams pdos (id_of plan.ids)) its (chosen plan.margin plan.rate streams pdos (id_of plan.ids) none is.order);
      renamed = is.renamed;
    }

module _ (rate : Rate) (streams : List Stream) (pdos : ℕ) (can : CanAssign streams pdos) where
  -- what a trial shows
  pub trial_shows : (part : ℕ) (longer : List Stream) (o : Option PlanValue) → AreChanged (with_deadlines part) streams longer
      → MatchOption o (NoAssignmentPasses rate longer pdos) (IsPlannedAt rate longer pdos)
      → MatchOption o (Fails (CanBePlanned rate pdos) (with_deadlines part) streams) (IsPlannedWith part rate streams pdos)
  trial_shows part longer None changed none = record { changed = longer; are_changed = changed; fails = λ planned. planned.some none }
  trial_shows part longer (Some plan) changed planned = record { longer = longer; are_longer = changed; planned = planned }

  pub planned_holds : (part : ℕ) (plan : PlanValue) (is : IsPlannedWith part rate streams pdos plan) → CanBePlanned rate pdos is.longer
  planned_holds part plan is = record {
    high = (can_assign_longer part streams is.longer is.are_longer pdos can).provisional;
    some = λ none. none (id_of plan.ids) is.planned.passing;
  }

  pub holds_or_fails : (part : ℕ) → Fails (CanBePlanned rate pdos) (with_deadlines part) streams → Holds (CanBePlanned rate pdos) (with_deadlines part) streams → ⊥
  holds_or_fails part = no_harder (CanBePlanned rate pdos) with_deadlines streams (anew_falls with_deadlines rate streams pdos can.count) part part (deadlines_harder part part (le_refl part))

  -- where each deadline is 60 s, it can be no longer
  nothing : (part : ℕ) → div_ceil (0 * part) 1000 ≡ 0
  nothing part = let least = div_ceil-least (0 * part) 1000 0 (omega arith) (omega arith) in omega (arith, least)

  capped : (c d : ℕ) → 60000000 ≤ d → min 240000000 (max 4 (4 * c)) ≤ min 240000000 (max 4 (4 * d))
  capped c d enough = omega (arith, enough)

  same_cap : (c d : ℕ) → c ≡ 0 → min 240000000 (max 4 (4 * c)) ≤ min 240000000 (max 4 (4 * d))
  same_cap c d none = omega (arith, none)

  longest : (q part : ℕ) → min 240000000 (max 4 (4 * div_ceil (q * part) 1000)) ≤ min 240000000 (max 4 (4 * div_ceil (q * 60000000000) 1000))
  longest q part = ⊎_elim
      (λ (none : q < 1). same_cap (div_ceil (q * part) 1000) (div_ceil (q * 60000000000) 1000) (let zero_q : q ≡ 0 = omega (arith, none) in ap (λ n. div_ceil (n * part) 1000) zero_q ∙ nothing part))
      (λ (some : 1 ≤ q).
      let reaches : q * 60000000000 ≤ div_ceil (q * 60000000000) 1000 * 1000 = div_ceil-reaches (q * 60000000000) 1000 (omega arith) in
      capped (div_ceil (q * part) 1000) (div_ceil (q * 60000000000) 1000) (omega (arith, reaches, some)))
      (cases_lt q 1)

  pub none_stretches : Fails (CanBePlanned rate pdos) (with_deadlines 60000000000) streams → NoneStretches rate streams pdos
  none_stretches fails part =
      no_harder (CanBePlanned rate pdos) with_deadlines streams (anew_falls with_deadlines rate streams pdos can.count) 60000000000 part (deadlines_by part 60000000000 (λ n. longest (n / 4) part)) fails

  -- the search

  pub goes_down : (low high part : ℕ) (plan : PlanValue) → IsBetween (CanBePlanned rate pdos) with_deadlines streams 1001 60000000000 low high → low ≤ part → part < high
      → IsPlannedWith part rate streams pdos plan → IsBetween (CanBePlanned rate pdos) with_deadlines streams 1001 60000000000 low part
  goes_down low high part plan between after before is =
      go_down (CanBePlanned rate pdos) with_deadlines streams 1001 60000000000 low high between part is.longer after before is.are_longer (planned_holds part plan is)

  pub goes_up : (low high part : ℕ) → IsBetween (CanBePlanned rate pdos) with_deadlines streams 1001 60000000000 low high → low ≤ part → part < high
      → Fails (CanBePlanned rate pdos) (with_deadlines part) streams → IsBetween (CanBePlanned rate pdos) with_deadlines streams 1001 60000000000 (part + 1) high
  goes_up low high part between after before fails =
      go_up (CanBePlanned rate pdos) with_deadlines streams 1001 60000000000 low high between part fails.changed after before fails.are_changed fails.fails

  pub ends_at : (low high : ℕ) → IsBetween (CanBePlanned rate pdos) with_deadlines streams 1001 60000000000 low high → high ≤ low → high ≤ 60000000000 → IsLeastLimit (CanBePlanned rate pdos) with_deadlines streams 1001 high
  ends_at low high between stop within =
      least_anew with_deadlines rate streams pdos 1001 high deadlines_harder can.count (ends_below (CanBePlanned rate pdos) with_deadlines streams 1001 60000000000 low high between stop within)

  pub ends_never : (low high : ℕ) → IsBetween (CanBePlanned rate pdos) with_deadlines streams 1001 60000000000 low high → high ≤ low → 60000000000 < high → NoneStretches rate streams pdos
  ends_never low high between stop beyond = none_stretches (ends_nowhere (CanBePlanned rate pdos) with_deadlines streams 1001 60000000000 low high between (omega arith) stop beyond)

  pub stretch_is : (part : ℕ) (plan : PlanValue) (t : Option ℕ) → IsLeastLimit (CanBePlanned rate pdos) with_deadlines streams 1001 part → IsPlannedWith part rate streams pdos plan
      → MatchOption t (length plan.ids ≡ 0) (IsTightest plan.rate plan.streams (length plan.ids)) → IsStretch rate streams pdos (record { thousandths = part; tightest = t })
  stretch_is part plan t least is tight = record {
    least = least;
    longer = is.longer;
    are_longer = is.are_longer;
    ids = id_of plan.ids;
    passing = is.planned.passing;
    order = is.planned.order;
    planned = plan.streams;
    have_ids = is.planned.renamed;
    tightest = subst (λ n. MatchOption t (n ≡ 0) (IsTightest rate plan.streams n)) is.planned.count (subst (λ r. MatchOption t (length plan.ids ≡ 0) (IsTightest r plan.streams (length plan.ids))) is.planned.rate_is tight);
  }

-- ---- the tightest PDO

greatest_of : (p : StreamPlace) (r : ℕ) → PassesBy p r → HasGreatest p r
greatest_of p r by = record {
  time = by.time;
  busy = by.busy;
  within = by.within;
  each = λ q queued. let v = by.on_time q queued in (v.0, v.1, v.3);
  reached = by.reached;
}

in_time : (p : StreamPlace) (r d : ℕ) → PassesBy p r → deadline_at p ≡ Some d → r ≤ d
in_time p r d by dated =
    let v = by.on_time by.reached.0 by.reached.1 in
    let late : v.0 ≤ d = v.2 d dated in
    let same : v.0 ≡ r = same_response p by.reached.0 v.0 r v.1 by.reached.2 in
    omega (arith, late, same)

module _ (p : StreamPlace) (inside : p.index < length p.streams) (d : ℕ) (dated : deadline_at p ≡ Some d) where
  judged_left : (v : Verdict) → IsJudged p v → Passes p → (response_of v ≤ d) × HasGreatest p (response_of v)
  judged_left (Pass r) judged passes = (in_time p r d judged dated, greatest_of p r judged)
  judged_left (Late q r) judged passes = absurd ((pass_iff p (Late q r) judged).1 passes)
  judged_left Long judged passes = absurd ((pass_iff p Long judged).1 passes)

  leaves_it : (v : Verdict) → IsJudged p v → Passes p → Leaves p (d - response_of v)
  leaves_it v judged passes =
      let both = judged_left v judged passes in
      record {
        deadline = d;
        dated = dated;
        response = response_of v;
        greatest = (greatest_response_is p inside (response_of v)).1 both.1;
        left = omega (arith, both.0);
      }

  leaves_that : (v : Verdict) (more : ℕ) → IsJudged p v → Passes p → Leaves p more → more ≡ d - response_of v
  leaves_that v more judged passes leaves =
      let both = judged_left v judged passes in
      let two : Some leaves.deadline ≡ Some d = sym leaves.dated ∙ dated in
      let same : leaves.deadline ≡ d = cc in
      let twice : Some leaves.response ≡ Some (response_of v) = sym leaves.greatest ∙ (greatest_response_is p inside (response_of v)).1 both.1 in
      let alike : leaves.response ≡ response_of v = cc in
      let sum = leaves.left in
      omega (arith, sum, same, alike)

module _ (rate : Rate) (streams : List Stream) (pdos : ℕ) (verdicts : List Verdict) (count : pdos ≤ length streams) (on_time : AreOnTime rate streams pdos)
    (judged : (k : ℕ) → k < length streams → IsJudged (place_by_id streams k rate) (get_or verdicts k Long)) where
  left_is : (k d : ℕ) → deadline_of streams k ≡ Some d → left_in streams verdicts k ≡ d - response_of (get_or verdicts k Long)
  left_is k d dated = ap (λ (o : Option ℕ). unwrap_or o 0 - response_of (get_or verdicts k Long)) dated

  pub is_tightest : (p : ℕ) → p < pdos → ((k : ℕ) → k < pdos → left_in streams verdicts p ≤ left_in streams verdicts k) → IsTightest rate streams pdos p
  is_tightest p low least =
      let d = on_time.deadlines p low in
      let inside : p < length streams = omega (arith, low, count) in
      record {
        inside = low;
        left = d.0 - response_of (get_or verdicts p Long);
        leaves = leaves_it (place_by_id streams p rate) inside d.0 d.1 (get_or verdicts p Long) (judged p inside) (on_time.pass p low);
        least = λ r more before leaves.
            let e = on_time.deadlines r before in
            let there : r < length streams = omega (arith, before, count) in
            let that = leaves_that (place_by_id streams r rate) there e.0 e.1 (get_or verdicts r Long) more (judged r there) (on_time.pass r before) leaves in
            let le = least r before in
            omega (arith, le, that, left_is p d.0 d.1, left_is r e.0 e.1);
      }

  pub tightest_if : (o : Option ℕ) → MatchOption o (pdos ≡ 0) (λ p. (p < pdos) × ((k : ℕ) → k < pdos → left_in streams verdicts p ≤ left_in streams verdicts k)) → MatchOption o (pdos ≡ 0) (IsTightest rate streams pdos)
  tightest_if None none = none
  tightest_if (Some p) least = is_tightest p least.0 least.1
