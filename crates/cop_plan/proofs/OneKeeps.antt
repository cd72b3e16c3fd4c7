-- The greatest margin is what one PDO or SDO frame keeps.
use Rattle.std.proofs.Common.{◌≡◌, ℕ, suc, ◌<◌, ◌≤◌, ◌⊎◌, inl, inr, true, List, length, slice_get, Some, arith, ⊎_elim}
use Rattle.std.specs.Option.{option_and_then}
use Rattle.std.proofs.lemmas.Bool.{cases_lt}
use Rattle.cop_frame.specs.declared.rates.Rate.{Rate}
use Rattle.cop_rta.specs.declared.streams.Stream.{Stream}
use Rattle.cop_rta.specs.Test.{Passes}
use Rattle.cop_rta.proofs.GreatestLemmas.{greatest_response_is}
use Rattle.cop_cert.specs.Assignments.{IsAssignment, IsSdo, IsTested, id_at, place_under}
use Rattle.cop_plan.specs.Caps.{deadline_of}
use Rattle.cop_plan.specs.Margins.{AreLowered, has_deadline, IsGreatestMargin, Keeps, Leaves}
use Rattle.cop_plan.specs.Values.{HaveDeadlines}
use Rattle.cop_plan.proofs.CapLemmas.{dated_inside}
use Rattle.cop_plan.proofs.MarginKept.{can_be_lowered}
use Rattle.cop_plan.proofs.MarginLemmas.{tested_after, tested_before}
use Rattle.cop_plan.proofs.LeavesLemmas.{some_response, leaves_by_passing, passes_by_leaving, KeepsAt, More, one_or_all}

-- each fixed frame with a deadline is an SDO frame
abbrev pub AreSdoDated : List Stream → ℕ → Type 0
AreSdoDated streams pdos = (k d : ℕ) → pdos ≤ k → k < length streams → option_and_then (λ (s : Stream). s.deadline) (slice_get streams k) ≡ Some d → IsSdo (id_at streams k)

module _ (rate : Rate) (streams : List Stream) (pdos : ℕ) (ids : ℕ → ℕ) (margin : ℕ) (assigned : IsAssignment pdos ids) (kept : Keeps margin rate streams pdos ids) (greatest : IsGreatestMargin rate streams pdos margin)
    (some : has_deadline streams ≡ true) (count : pdos ≤ length streams) (dated : HaveDeadlines streams pdos) (only : AreSdoDated streams pdos) where
  tested : (k d : ℕ) → k < length streams → option_and_then (λ (s : Stream). s.deadline) (slice_get streams k) ≡ Some d → (k < pdos) ⊎ IsTested streams pdos k
  tested k d inside deadline = ⊎_elim inl (λ (fixed : pdos ≤ k). inr (record { fixed = fixed; inside = inside; sdo = only k d fixed inside deadline; deadline = (d, deadline) })) (cases_lt k pdos)

  keeps : (k : ℕ) → k < length streams → KeepsAt rate streams pdos ids margin k
  keeps k inside d deadline =
      leaves_by_passing (λ _. margin) streams kept.0 kept.1 rate pdos ids k d inside deadline
      (⊎_elim (λ (p : k < pdos). kept.2.each k p) (λ (t : IsTested streams pdos k). kept.2.frames k (tested_after (λ _. margin) streams kept.0 kept.1 rate pdos k t)) (tested k d inside deadline))

  module _ (all : (k : ℕ) → k < length streams → More rate streams pdos ids margin k) where
    above : (k d : ℕ) → deadline_of streams k ≡ Some d → suc margin < d
    above k d e =
        let inside = dated_inside streams k d e in
        let found = all k inside d e in
        omega (arith, found.2, some_response (place_under rate streams pdos ids k) inside found.0 ((greatest_response_is (place_under rate streams pdos ids k) inside found.0).0 found.1))

    more : (lowered : List Stream) × AreLowered (suc margin) streams lowered
    more = can_be_lowered (λ _. suc margin) streams above

    passes_more : (k d : ℕ) → k < length streams → option_and_then (λ (s : Stream). s.deadline) (slice_get streams k) ≡ Some d → Passes (place_under rate more.0 pdos ids k)
    passes_more k d inside deadline =
        let found = all k inside d deadline in
        passes_by_leaving (λ _. suc margin) streams more.0 more.1 rate pdos ids k d found.0 inside deadline found.1 found.2

    not_all : ⊥
    not_all = greatest.greatest some (suc margin) (omega arith) more.0 more.1 ids (
      assigned,
      record {
        each = λ p h. let d = dated p h in passes_more p d.0 (omega (arith, h, count)) d.1;
        frames = λ f t. let before = tested_before (λ _. suc margin) streams more.0 more.1 rate pdos f t in passes_more f before.deadline.0 before.inside before.deadline.1;
      },
    )

  pub one_leaves : (k : ℕ) × (k < length streams) × Leaves (place_under rate streams pdos ids k) margin
  one_leaves = ⊎_elim (λ one. one) (λ all. absurd (not_all all)) (one_or_all rate streams pdos ids margin (length streams) keeps)
