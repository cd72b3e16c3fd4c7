-- Where streams of a plan are held a period apart and all others obey, all obey with hand-overs as events.
use Rattle.std.proofs.Common.{◌≡◌, ℕ, ◌+◌, ◌*◌, ◌≤◌, ◌<◌, ◌⊎◌, inl, inr, Bool, true, false, List, length, get_or, Option, Some, refl, ap, subst, ◌∙◌, All}
use Rattle.std.specs.Option.{ForSome}
use Rattle.cop_frame.specs.Rate.{ticks_of}
use Rattle.cop_rta.specs.declared.streams.Stream.{Stream}
use Rattle.cop_bus.specs.Run.{Instance, IsObeying, IsOnTime}
use Rattle.cop_plan.specs.Values.{PlanValue}
use Rattle.cop_sim.specs.Guarantee.{IsRunOf, IsPdo, IsFrame, IsKept}
use Rattle.cop_held.specs.Held.{redated_one, redated, IsHeldRunOf, IsSentOnTime}
use Rattle.cop_held.proofs.MapLemmas.{all_unmap}
use Rattle.cop_held.proofs.RedatedLemmas.{still_legal, held_obeys, others_obey}

module _ (plan : PlanValue) (held : ℕ → Bool) (until : ℕ) (run : List Instance) (h : IsHeldRunOf plan held until run) where
  obeys : (i : ℕ) (d : Stream) (lt : i < length plan.streams) (b : Bool) → held (get_or plan.streams i d).id ≡ b
      → IsObeying (ticks_of plan.rate) until (redated held run) (get_or plan.streams i d)
  obeys i d lt true is = held_obeys (ticks_of plan.rate) until held run (get_or plan.streams i d) (h.by_events i d lt is) is (h.apart i d lt is)
  obeys i d lt false free = others_obey held h.no_sync (ticks_of plan.rate) until run (get_or plan.streams i d) free (h.obeying i d lt free)

  -- with hand-overs as events it is a run of the plan
  pub is_run : IsRunOf plan until (redated held run)
  is_run = record {
    legal = still_legal (ticks_of plan.rate) until plan.streams held run h.legal;
    obeying = λ i d lt. obeys i d lt (held (get_or plan.streams i d).id) refl;
  }

-- ---- what that run shows of the run itself

on_time_from : (tau until : ℕ) (deadline : Option ℕ) (held : ℕ → Bool) (y : Instance) (moment : ℕ) → (redated_one held y).event ≡ moment
    → IsOnTime tau until deadline (redated_one held y)
    → ForSome deadline (λ d. moment + d ≤ until → (s : ℕ) × (y.start ≡ Some s) × (s + y.bits * tau ≤ moment + d))
on_time_from tau until deadline held y moment same h =
    subst (λ m. ForSome deadline (λ d. m + d ≤ until → (s : ℕ) × (y.start ≡ Some s) × (s + y.bits * tau ≤ m + d))) same h

module _ (plan : PlanValue) (held : ℕ → Bool) (until : ℕ) (run : List Instance) (h : IsKept plan until (redated held run)) (k : Stream) where
  on_time : IsPdo plan k ⊎ IsFrame plan k → All (λ y. y.id ≡ k.id → IsOnTime (ticks_of plan.rate) until k.deadline y) (redated held run)
  on_time (inl pdo) = h.on_time k pdo
  on_time (inr frame) = h.frames k frame

  each : IsPdo plan k ⊎ IsFrame plan k → All (λ y. y.id ≡ k.id → IsOnTime (ticks_of plan.rate) until k.deadline (redated_one held y)) run
  each one = all_unmap (redated_one held) (λ y. y.id ≡ k.id → IsOnTime (ticks_of plan.rate) until k.deadline y) run (on_time one)

  pub held_on_time : IsPdo plan k ⊎ IsFrame plan k → held k.id ≡ true → All (λ y. y.id ≡ k.id → IsSentOnTime (ticks_of plan.rate) until k.deadline y) run
  held_on_time one is = λ i d lt same.
      let y = get_or run i d in
      let b : held y.id ≡ true = ap held same ∙ is in
      on_time_from (ticks_of plan.rate) until k.deadline held y y.queued (rw b refl) (each one i d lt same)

  pub others_on_time : IsPdo plan k ⊎ IsFrame plan k → held k.id ≡ false → All (λ y. y.id ≡ k.id → IsOnTime (ticks_of plan.rate) until k.deadline y) run
  others_on_time one free = λ i d lt same.
      let y = get_or run i d in
      let b : held y.id ≡ false = ap held same ∙ free in
      on_time_from (ticks_of plan.rate) until k.deadline held y y.event (rw b refl) (each one i d lt same)
