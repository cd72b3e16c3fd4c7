-- The events of the SYNCs that wait or run, step by step.
use Rattle.std.proofs.Common.{◌≡◌, ℕ, ◌+◌, inl, inr, List, [], ◌∷◌, ◌++◌, length, refl, sym, ◌∙◌, ap, subst, arith, suc, false, length-append}
use Rattle.std.specs.Prelude.{Option, None, Some, slice_index}
use Rattle.cop_rta.specs.Test.{sync_id}
use Rattle.cop_bus.specs.declared.steps.Step.{Step}
use Rattle.cop_bus.specs.declared.steps.Content.{Content}
use Rattle.cop_bus.specs.declared.steps.Step.TheVariants.{Queue, End}
use Rattle.cop_bus.specs.Trace.{is_queue, nth_that}
use Rattle.cop_bus.specs.Ends.{is_end, event_in}
use Rattle.cop_bus.proofs.StepLemmas.{nth_that-at}
use Rattle.cop_bus.proofs.Grows.{count_to-more, nth_that-more}
use Rattle.cop_bus.proofs.Appended.{step_at-here, length-one}
use Rattle.cop_watch.specs.Knowing.{queues, ends, AreUnended}
use Rattle.cop_watch.proofs.Further.{count-kept, count-raised}
use Rattle.cop_watch.proofs.HeldLemmas.{last-of}

pub event-some : (o : Option Step) (e : ℕ) → event_in o ≡ Some e → (y : Step) × (o ≡ Some y)
event-some None e h = absurd (cc)
event-some (Some y) e h = (y, refl)

-- an event that is found is found with more steps behind
event-more : (steps : List Step) (x : Step) (n event : ℕ) → event_in (nth_that (is_queue sync_id) n steps) ≡ Some event → event_in (nth_that (is_queue sync_id) n (steps ++ x ∷ [])) ≡ Some event
event-more steps x n event h =
    let y = event-some (nth_that (is_queue sync_id) n steps) event h in
    ap event_in (nth_that-more (is_queue sync_id) n steps (x ∷ []) y.0 y.1 ∙ sym y.1) ∙ h

-- a step that neither queues a SYNC nor ends one leaves all as it is
pub unended-other : (steps : List Step) (x : Step) (events : List ℕ) → is_queue sync_id x ≡ false → is_end sync_id x ≡ false → AreUnended steps events → AreUnended (steps ++ x ∷ []) events
unended-other steps x events f g h =
    let q = count-kept (is_queue sync_id) steps x f in
    let n = count-kept (is_end sync_id) steps x g in
    record {
      count = (let c = h.count in omega (arith, q, n, c));
      each = λ j l. subst (λ m. event_in (nth_that (is_queue sync_id) (m + j) (steps ++ x ∷ [])) ≡ Some (slice_index events j)) (sym n) (event-more steps x (ends steps + j) (slice_index events j) (h.each j l));
    }

-- a SYNC that is queued comes behind the others
pub unended-queued : (steps : List Step) (at event : ℕ) (frame : Content) (events : List ℕ) → AreUnended steps events → AreUnended (steps ++ Queue sync_id at event frame ∷ []) (events ++ event ∷ [])
unended-queued steps at event frame events h =
    let x = Queue sync_id at event frame in
    let q = count-raised (is_queue sync_id) steps x refl in
    let n = count-kept (is_end sync_id) steps x refl in
    let here = step_at-here steps x [] in
    let t = nth_that-at (is_queue sync_id) (steps ++ x ∷ []) (length steps) (let l = length-one steps x in omega (arith, l)) (ap (is_queue sync_id) here) in
    let r = count_to-more (is_queue sync_id) steps (x ∷ []) (length steps) (omega arith) in
    let there : event_in (nth_that (is_queue sync_id) (queues sync_id steps) (steps ++ x ∷ [])) ≡ Some event = ap (λ m. event_in (nth_that (is_queue sync_id) m (steps ++ x ∷ []))) (sym r) ∙ ap event_in (t ∙ ap Some here) in
    let HasEvent : ℕ → ℕ → Type 0 = λ m v. event_in (nth_that (is_queue sync_id) m (steps ++ x ∷ [])) ≡ Some v in
    record {
      count = (let c = h.count in let m = length-append events (event ∷ []) in omega (arith, q, n, c, m));
      each = λ j l. elim (last-of events event j l) [
        | inl k ↦ subst (HasEvent (ends (steps ++ x ∷ []) + j)) (sym k.1) (subst (λ m. HasEvent (m + j) (slice_index events j)) (sym n) (event-more steps x (ends steps + j) (slice_index events j) (h.each j k.0)))
        | inr k ↦ (let c = h.count in let m : queues sync_id steps ≡ ends (steps ++ x ∷ []) + j = (let g = k.0 in omega (arith, c, g, n)) in
            subst (HasEvent (ends (steps ++ x ∷ []) + j)) (sym k.1) (subst (λ i. HasEvent i event) m there))
      ];
    }

-- the first is that of the SYNC that ends next
pub unended-first : (steps : List Step) (event : ℕ) (rest : List ℕ) → AreUnended steps (event ∷ rest) → event_in (nth_that (is_queue sync_id) (ends steps) steps) ≡ Some event
unended-first steps event rest h =
    let zero : ends steps + 0 ≡ ends steps = omega arith in
    subst (λ n. event_in (nth_that (is_queue sync_id) n steps) ≡ Some event) zero (h.each 0 (omega arith))

pub unended-ended : (steps : List Step) (at event : ℕ) (rest : List ℕ) → AreUnended steps (event ∷ rest) → AreUnended (steps ++ End sync_id at ∷ []) rest
unended-ended steps at event rest h =
    let x = End sync_id at in
    let q = count-kept (is_queue sync_id) steps x refl in
    let n = count-raised (is_end sync_id) steps x refl in
    record {
      count = (let c = h.count in omega (arith, q, n, c));
      each = λ j l. (let m : ends steps + suc j ≡ ends (steps ++ x ∷ []) + j = omega (arith, n) in
          subst (λ i. event_in (nth_that (is_queue sync_id) i (steps ++ x ∷ [])) ≡ Some (slice_index rest j)) m (event-more steps x (ends steps + suc j) (slice_index rest j) (h.each (suc j) (omega (arith, l)))));
    }
