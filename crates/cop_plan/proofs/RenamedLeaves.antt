-- What a greatest response leaves of a deadline where the streams have their identifiers.
use Rattle.std.proofs.Common.{◌≡◌, ℕ, ◌<◌, ◌≤◌, true, Bool, List, length, Option, Some, sym, ap, ◌∙◌, subst, arith, le_antisymm}
use Rattle.cop_frame.specs.declared.rates.Rate.{Rate}
use Rattle.cop_rta.specs.declared.streams.Stream.{Stream}
use Rattle.cop_rta.specs.Greatest.{HasGreatest}
use Rattle.cop_rta.specs.Solutions.{IsLeastSolution}
use Rattle.cop_rta.specs.Test.{StreamPlace, IsBusyTime, IsResponse, busy_at, queueing_at, greatest_response, place_by_id, ahead_of}
use Rattle.cop_rta.specs.Witnesses.{under, HasMoreAbove}
use Rattle.cop_rta.proofs.GreatestLemmas.{greatest_response_is}
use Rattle.cop_rta.proofs.MoreAbove.{busy_at-more, queueing_at-more}
use Rattle.cop_cert.specs.Assignments.{least_id, is_lower, place_under}
use Rattle.cop_net.specs.Network.{Net, IsNetwork}
use Rattle.cop_plan.specs.declared.choices.Kept.{Kept}
use Rattle.cop_plan.specs.Margins.{has_deadline, AreKept, IsChosenOrder, Leaves}
use Rattle.cop_plan.specs.Plans.{IsPlan}
use Rattle.cop_plan.specs.Values.{PlanValue, id_of, HaveIds, ArePdosHigh}
use Rattle.cop_plan.proofs.NetworkLemmas.{the_deadline, none_undated}
use Rattle.cop_plan.proofs.OneKeeps.{one_leaves}
use Rattle.cop_plan.proofs.RenameLemmas.{none_lower, lower_before, lower_after, same_count, sync_alike}
use Rattle.cop_plan.proofs.SameAsking.{place_at, same_greatest}
use Rattle.cop_plan.proofs.SamePlace.{askings, same_deadline}
use Rattle.cop_plan.proofs.SameSync.{ahead_same}

-- ---- the same streams above, by two tests

module _ (p : StreamPlace) (more : ℕ → Bool) (up : HasMoreAbove p more) (down : HasMoreAbove (under p more) p.above) where
  same_busy : (t : ℕ) → 1 ≤ t → busy_at (under p more) t ≡ busy_at p t
  same_busy t h = le_antisymm (busy_at-more (under p more) p.above t down h) (busy_at-more p more t up h)

  same_queueing : (q w : ℕ) → queueing_at (under p more) q w ≡ queueing_at p q w
  same_queueing q w = le_antisymm (queueing_at-more (under p more) p.above q w down) (queueing_at-more p more q w up)

  busy_kept : (t : ℕ) → IsBusyTime (under p more) t → IsBusyTime p t
  busy_kept t h = record {
    within = h.within;
    solves = h.solves ∙ same_busy t h.within;
    least = λ y le s. h.least y le (s ∙ sym (same_busy y le));
  }

  response_kept : (q r : ℕ) → IsResponse (under p more) q r → IsResponse p q r
  response_kept q r h =
      let equation : queueing_at (under p more) q ≡ queueing_at p q = λ i w. same_queueing q w i in
      record { wait = h.wait; queueing = subst (λ (f : ℕ → ℕ). IsLeastSolution f 0 h.wait) equation h.queueing; response = h.response }

  greatest_kept : (r : ℕ) → HasGreatest (under p more) r → HasGreatest p r
  greatest_kept r h = record {
    time = h.time;
    busy = busy_kept h.time h.busy;
    within = h.within;
    each = λ q queued. let a = h.each q queued in (a.0, response_kept q a.0 a.1, a.2);
    reached = (h.reached.0, h.reached.1, response_kept h.reached.0 r h.reached.2);
  }

-- ---- under the identifiers of an assignment, and of the streams themselves

module _ (rate : Rate) (streams renamed : List Stream) (pdos : ℕ) (ids : ℕ → ℕ) (have : HaveIds streams pdos ids renamed) (provisional : ArePdosHigh streams pdos) (low : (p : ℕ) → p < pdos → least_id ≤ ids p) where
  leaves_renamed : (k margin : ℕ) → k < length streams → Leaves (place_under rate streams pdos ids k) margin → Leaves (place_by_id renamed k rate) margin
  leaves_renamed k margin inside l =
      let there : k < length renamed = omega (arith, inside, same_count rate streams renamed pdos ids have) in
      let asks = askings streams renamed (sym have.timings) in
      let same : greatest_response (place_under rate streams pdos ids k) ≡ greatest_response (under (place_by_id renamed k rate) (is_lower streams pdos ids k)) =
      same_greatest streams renamed asks (is_lower streams pdos ids k) k rate (ahead_of streams rate)
      ∙ ap (λ (ahead : ℕ). greatest_response (place_at renamed (is_lower streams pdos ids k) k rate ahead)) (ahead_same streams renamed asks (sync_alike rate streams renamed pdos ids have provisional low) rate) in
      record {
        deadline = l.deadline;
        dated = same_deadline renamed streams have.timings k ∙ l.dated;
        response = l.response;
        greatest = (greatest_response_is (place_by_id renamed k rate) there l.response).1
            (greatest_kept (place_by_id renamed k rate) (is_lower streams pdos ids k) (lower_before rate streams renamed pdos ids have k inside) (lower_after rate streams renamed pdos ids have k inside) l.response
            ((greatest_response_is (under (place_by_id renamed k rate) (is_lower streams pdos ids k)) there l.response).0 (sym same ∙ l.greatest)));
        left = l.left;
      }

-- ---- of a network

module _ (n : Net) (is : IsNetwork n) (rates : List Rate) (plan : PlanValue) (kept : Kept) (planned : IsPlan rates n.set (length n.rows) plan) (chosen : plan.margin ≡ Some kept) (some : has_deadline n.set ≡ true) where
  with_margin : AreKept kept plan.rate n.set (length n.rows) (id_of plan.ids)
  with_margin = subst (λ (o : Option Kept). IsChosenOrder o plan.rate n.set (length n.rows) (id_of plan.ids)) chosen planned.order

  pub one_leaves_margin : (k : ℕ) × (k < length plan.streams) × Leaves (place_by_id plan.streams k plan.rate) kept.all
  one_leaves_margin =
      let one = one_leaves plan.rate n.set (length n.rows) (id_of plan.ids) kept.all planned.passing.0 with_margin.keeps with_margin.greatest some is.streams.count
      (λ p h. the_deadline _ (is.streams.deadlines p h)) (λ k d fixed inside dated. is.streams.dated k fixed inside (none_undated _ d dated)) in (
        one.0,
        omega (arith, one.1, same_count plan.rate n.set plan.streams (length n.rows) (id_of plan.ids) planned.renamed),
        leaves_renamed plan.rate n.set plan.streams (length n.rows) (id_of plan.ids) planned.renamed (λ p h. omega (arith, is.streams.provisional p h)) (none_lower (length n.rows) (id_of plan.ids) planned.passing.0) one.0 kept.all one.1 one.2,
      )
