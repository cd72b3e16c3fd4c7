-- The instances of a stream that wait, step by step.
use Rattle.std.proofs.Common.{◌≡◌, ℕ, ◌+◌, ◌≤◌, ◌<◌, ◌⊎◌, inl, inr, List, [], ◌∷◌, ◌++◌, length, refl, sym, ◌∙◌, ap, subst, arith, suc, zero, false, nat_lt, length-append}
use Rattle.std.specs.Prelude.{Some, slice_index}
use Rattle.std.proofs.lemmas.Bool.{cases_lt}
use Rattle.cop_bus.specs.declared.steps.Step.{Step}
use Rattle.cop_bus.specs.declared.steps.Content.{Content}
use Rattle.cop_bus.specs.declared.steps.Step.TheVariants.{Queue, Start}
use Rattle.cop_bus.specs.Trace.{is_queue, is_start, nth_that}
use Rattle.cop_bus.specs.Judge.{waits_after}
use Rattle.cop_bus.proofs.Work.{lt-true, lt-false, eq-true}
use Rattle.cop_bus.proofs.StepLemmas.{nth_that-at}
use Rattle.cop_bus.proofs.Grows.{nth_that-more, count_to-more}
use Rattle.cop_bus.proofs.Appended.{step_at-here, length-one}
use Rattle.cop_watch.specs.Knowing.{queues, starts, IsQueued, IsHeld}
use Rattle.cop_watch.proofs.Further.{count-kept, count-raised}

pub queued-more : (steps : List Step) (x : Step) (now later id j bits : ℕ) → now ≤ later → IsQueued steps now id j bits → IsQueued (steps ++ x ∷ []) later id j bits
queued-more steps x now later id j bits le q = record {
  at = q.at;
  event = q.event;
  frame = q.frame;
  there = nth_that-more (is_queue id) j steps (x ∷ []) (Queue id q.at q.event q.frame) q.there;
  long = q.long;
  by_now = omega (arith, le, q.by_now);
}

-- an instance waits exactly where there is a length
pub waits-is : (steps : List Step) (now id : ℕ) (lengths : List ℕ) → IsHeld steps now id lengths → waits_after steps (length steps) id ≡ nat_lt 0 (length lengths)
waits-is steps now id lengths h = elim (cases_lt (starts id steps) (queues id steps)) [
  | inl l ↦ lt-true (starts id steps) (queues id steps) l ∙ sym (lt-true 0 (length lengths) (omega (arith, l, h.count)))
  | inr l ↦ lt-false (starts id steps) (queues id steps) l ∙ sym (lt-false 0 (length lengths) (omega (arith, l, h.count)))
]

-- a step of another stream leaves all as it is
pub held-other : (steps : List Step) (x : Step) (now later id : ℕ) (lengths : List ℕ) → now ≤ later → is_queue id x ≡ false → is_start id x ≡ false → IsHeld steps now id lengths → IsHeld (steps ++ x ∷ []) later id lengths
held-other steps x now later id lengths le f g h =
    let q = count-kept (is_queue id) steps x f in
    let s = count-kept (is_start id) steps x g in
    record {
      count = (let c = h.count in omega (arith, q, s, c));
      each = λ j l. subst (λ n. IsQueued (steps ++ x ∷ []) later id (n + j) (slice_index lengths j)) (sym s) (queued-more steps x now later id (starts id steps + j) (slice_index lengths j) le (h.each j l));
    }

-- the start of the first takes it out
pub held-started : (steps : List Step) (z now later id bits : ℕ) (rest : List ℕ) → now ≤ later → IsHeld steps now id (bits ∷ rest) → IsHeld (steps ++ Start id z ∷ []) later id rest
held-started steps z now later id bits rest le h =
    let x = Start id z in
    let q = count-kept (is_queue id) steps x refl in
    let s = count-raised (is_start id) steps x (eq-true id id refl) in
    record {
      count = (let c = h.count in omega (arith, q, s, c));
      each = λ j l.
          (let n : starts id steps + suc j ≡ starts id (steps ++ x ∷ []) + j = omega (arith, s) in
          subst (λ n. IsQueued (steps ++ x ∷ []) later id n (slice_index rest j)) n (queued-more steps x now later id (starts id steps + suc j) (slice_index rest j) le (h.each (suc j) (omega (arith, l)))));
    }

-- the start of a joiner leaves none
pub held-joiner : (steps : List Step) (z now later id : ℕ) → IsHeld steps now id [] → IsHeld (steps ++ Start id z ∷ []) later id []
held-joiner steps z now later id h =
    let x = Start id z in
    let q = count-kept (is_queue id) steps x refl in
    let s = count-raised (is_start id) steps x (eq-true id id refl) in
    record { count = (let c = h.count in omega (arith, q, s, c)); each = λ j l. absurd (omega (arith, l)) }

-- and so does its queue step
pub held-joined : (steps : List Step) (at event now later id : ℕ) (frame : Content) (lengths : List ℕ) → queues id steps < starts id steps → IsHeld steps now id lengths → IsHeld (steps ++ Queue id at event frame ∷ []) later id lengths
held-joined steps at event now later id frame lengths ahead h =
    let x = Queue id at event frame in
    let q = count-raised (is_queue id) steps x (eq-true id id refl) in
    let s = count-kept (is_start id) steps x refl in
    record { count = (let c = h.count in omega (arith, q, s, c, ahead)); each = λ j l. absurd (let c = h.count in omega (arith, l, c, ahead)) }

pub last-of : (lengths : List ℕ) (bits j : ℕ) → j < length (lengths ++ bits ∷ []) → ((j < length lengths) × (slice_index (lengths ++ bits ∷ []) j ≡ slice_index lengths j)) ⊎ ((j ≡ length lengths) × (slice_index (lengths ++ bits ∷ []) j ≡ bits))
last-of [] bits zero l = inr (refl, refl)
last-of [] bits (suc j) l = absurd (omega (arith, l))
last-of (y ∷ ys) bits zero l = inl (omega arith, refl)
last-of (y ∷ ys) bits (suc j) l = elim (last-of ys bits j (omega (arith, l))) [ inl h ↦ inl (omega (arith, h.0), h.1) | inr h ↦ inr (omega (arith, h.0), h.1) ]

-- another queue step puts its instance behind the others
pub held-queued : (steps : List Step) (at event now later id : ℕ) (frame : Content) (lengths : List ℕ) → now ≤ later → at ≤ later → starts id steps ≤ queues id steps →
    IsHeld steps now id lengths → IsHeld (steps ++ Queue id at event frame ∷ []) later id (lengths ++ frame.bits ∷ [])
held-queued steps at event now later id frame lengths le by even h =
    let x = Queue id at event frame in
    let its = eq-true id id refl in
    let q = count-raised (is_queue id) steps x its in
    let s = count-kept (is_start id) steps x refl in
    let here = step_at-here steps x [] in
    let t = nth_that-at (is_queue id) (steps ++ x ∷ []) (length steps) (let n = length-one steps x in omega (arith, n)) (ap (is_queue id) here ∙ its) in
    let r = count_to-more (is_queue id) steps (x ∷ []) (length steps) (omega arith) in
    let there : nth_that (is_queue id) (queues id steps) (steps ++ x ∷ []) ≡ Some x = ap (λ n. nth_that (is_queue id) n (steps ++ x ∷ [])) (sym r) ∙ t ∙ ap Some here in
    record {
      count = (let c = h.count in let n = length-append lengths (frame.bits ∷ []) in omega (arith, q, s, c, n, even));
      each = λ j l. elim (last-of lengths frame.bits j l) [
        | inl k ↦ subst (IsQueued (steps ++ x ∷ []) later id (starts id (steps ++ x ∷ []) + j)) (sym k.1)
            (subst (λ n. IsQueued (steps ++ x ∷ []) later id (n + j) (slice_index lengths j)) (sym s) (queued-more steps x now later id (starts id steps + j) (slice_index lengths j) le (h.each j k.0)))
        | inr k ↦ (let c = h.count in let m : queues id steps ≡ starts id (steps ++ x ∷ []) + j = (let g = k.0 in omega (arith, c, g, s, even)) in
            subst (IsQueued (steps ++ x ∷ []) later id (starts id (steps ++ x ∷ []) + j)) (sym k.1)
            (subst (λ n. IsQueued (steps ++ x ∷ []) later id n frame.bits) m (record { at = at; event = event; frame = frame; there = there; long = refl; by_now = by })))
      ];
    }
