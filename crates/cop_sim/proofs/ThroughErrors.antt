-- A plan is kept through the errors that it counts.
use Rattle.std.proofs.Common.{◌≡◌, ◌∙◌, ℕ, ◌<◌, ◌≤◌, inl, inr, List, length, Option, Some, sym, ap, subst, arith}
use Rattle.std.specs.Prelude.{slice_get}
use Rattle.std.specs.Option.{option_map_or}
use Rattle.cop_frame.specs.Rate.{ticks_of}
use Rattle.cop_rta.specs.declared.streams.Stream.{Stream}
use Rattle.cop_rta.specs.Streams.{AreDistinct}
use Rattle.cop_rta.specs.Errors.{errors_of}
use Rattle.cop_cert.specs.Assignments.{IsTested, IsSdo, id_at}
use Rattle.cop_bus.specs.Run.{Instance}
use Rattle.cop_errors.specs.Errors.{Disturbance}
use Rattle.cop_errors.specs.Extended.{IsRunThrough, extended_by}
use Rattle.cop_errors.proofs.SetRuns.{of_set, kept as kept_on_bus}
use Rattle.cop_plan.specs.Values.{PlanValue, id_of}
use Rattle.cop_plan.specs.Planned.{IsPlanned}
use Rattle.cop_plan.proofs.RenameLemmas.{none_lower}
use Rattle.cop_sim.specs.Guarantee.{IsPdo, IsFrame, IsRunOf, IsKept, IsKeptThrough}

sdo_high : (id : ℕ) → IsSdo id → 2 ≤ id
sdo_high id (inl h) = omega (arith, h.0)
sdo_high id (inr h) = omega (arith, h.0)

its_id : (streams : List Stream) (p : ℕ) (k : Stream) → slice_get streams p ≡ Some k → id_at streams p ≡ k.id
its_id streams p k here = ap (λ (o : Option Stream). option_map_or (λ s. s.id) o 0) here

module _ (plan : PlanValue) (planned : IsPlanned plan) where
  pub pdo_high : (k : Stream) → IsPdo plan k → 2 ≤ k.id
  pdo_high k pdo =
      let low = none_lower (length plan.ids) (id_of plan.ids) planned.assigned pdo.0 pdo.1 in
      let its = planned.its pdo.0 pdo.1 in
      let id = its_id plan.streams pdo.0 k pdo.2 in
      omega (arith, low, its, id)

  pub frame_high : (k : Stream) → IsFrame plan k → 2 ≤ k.id
  frame_high k frame =
      let high = sdo_high (id_at plan.streams frame.0) frame.1.sdo in
      let id = its_id plan.streams frame.0 k frame.2 in
      omega (arith, high, id)

  pub kept_through : AreDistinct plan.streams → ((until : ℕ) (run : List Instance) → IsRunOf plan until run → IsKept plan until run)
      → (until : ℕ) (run : List Instance) (hits : List Disturbance) (events : List ℕ) → IsRunThrough plan.rate plan.streams until run hits events → IsKeptThrough plan until run
  kept_through distinct keeps until run hits events r =
      let whole = of_set plan.rate until run hits events plan.streams distinct r in
      let kept = keeps until (extended_by (errors_of plan.streams) run hits events) (record { legal = whole.legal; obeying = whole.obeying }) in
      let on_bus = kept_on_bus (errors_of plan.streams) (ticks_of plan.rate) until run hits events in record {
        on_time = λ k pdo. on_bus k.id k.deadline (pdo_high k pdo) (kept.on_time k pdo);
        frames = λ k frame. on_bus k.id k.deadline (frame_high k frame) (kept.frames k frame);
        responses = λ p response k high here passes. on_bus k.id (Some response) high (kept.responses p response k here passes);
      }
