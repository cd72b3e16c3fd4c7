-- What the simulator has at hand of a stream, step by step: its next offer, and its instances that wait.
use Rattle.std.proofs.Common.{◌≡◌, ℕ, ◌+◌, ◌-◌, ◌≤◌, ◌<◌, ◌⊎◌, inl, inr, List, [], ◌∷◌, ◌++◌, length, drop, refl, sym, ◌∙◌, ap, arith, suc, zero, true, false, length-append}
use Rattle.std.specs.Prelude.{Option, None, Some, slice_get}
use Rattle.cop_bus.specs.declared.steps.Step.{Step}
use Rattle.cop_bus.specs.declared.steps.Step.TheVariants.{Queue, Start}
use Rattle.cop_bus.specs.declared.bus.Instance.{Instance}
use Rattle.cop_bus.specs.Trace.{is_queue, is_start, nth_that}
use Rattle.cop_bus.specs.Judge.{waits_after}
use Rattle.cop_bus.proofs.Work.{true-lt, lt-true, eq-true}
use Rattle.cop_bus.proofs.StepLemmas.{nth_that-at, bool_cases}
use Rattle.cop_sim.specs.declared.behaviours.Offer.{Offer}
use Rattle.cop_sim.specs.Play.{Actor, queued_at, queue_step, next_offer}
use Rattle.cop_bus.specs.Rings.{RingValue}
use Rattle.cop_sim.specs.Stages.{queues, starts, IsHeld}
use Rattle.cop_bus.proofs.Grows.{nth_that-more, count_to-more}
use Rattle.cop_bus.proofs.Appended.{step_at-here, length-one}
use Rattle.cop_sim.proofs.Cued.{EndQueued}
use Rattle.cop_sim.proofs.Kept.{count-kept, count-raised, next-kept}

-- an instance waits where the ring is not empty
pub held-waits : (until : ℕ) (steps : List Step) (a : Actor) (next : Option Offer) (ring : RingValue) → IsHeld until steps a next ring → 0 < length ring.waiting → waits_after steps (length steps) a.stream.id ≡ true
held-waits until steps a next ring h l = let c = h.count in lt-true (starts a.stream.id steps) (queues a.stream.id steps) (omega arith)

pub held-none : (until : ℕ) (steps : List Step) (a : Actor) (next : Option Offer) (ring : RingValue) → IsHeld until steps a next ring → length ring.waiting ≡ 0 → waits_after steps (length steps) a.stream.id ≡ false
held-none until steps a next ring h l = elim (bool_cases (waits_after steps (length steps) a.stream.id)) [
  | inr f ↦ f
  | inl t ↦ (let m = true-lt (starts a.stream.id steps) (queues a.stream.id steps) t in let c = h.count in absurd (omega (arith, m, c, l)))
]

-- a step of another stream leaves its ring as it is
pub held-other : (until : ℕ) (steps : List Step) (x : Step) (a : Actor) (next after : Option Offer) (ring : RingValue) → is_queue a.stream.id x ≡ false → is_start a.stream.id x ≡ false →
    after ≡ next_offer until (steps ++ x ∷ []) (length (steps ++ x ∷ [])) a → IsHeld until steps a next ring → IsHeld until (steps ++ x ∷ []) a after ring
held-other until steps x a next after ring f g again h =
    let q = count-kept (is_queue a.stream.id) steps x f in
    let s = count-kept (is_start a.stream.id) steps x g in
    record {
      offer = again;
      its = h.its;
      count = (let c = h.count in omega (arith, q, s, c));
      each = λ k y e. ap (λ n. nth_that (is_queue a.stream.id) (n + k) (steps ++ x ∷ [])) s ∙ nth_that-more (is_queue a.stream.id) (starts a.stream.id steps + k) steps (x ∷ []) (Queue a.stream.id y.at y.event y.frame) (h.each k y e);
    }

-- the start of an instance that waits takes it out
pub held-started : (until : ℕ) (steps : List Step) (z : ℕ) (a : Actor) (next : Option Offer) (ring : RingValue) → EndQueued steps → 0 < length ring.waiting → IsHeld until steps a next ring →
    IsHeld until (steps ++ Start a.stream.id z ∷ []) a next (record { id = ring.id; waiting = drop 1 ring.waiting; most = ring.most })
held-started until steps z a next ring few l h =
    let x = Start a.stream.id z in
    let q = count-kept (is_queue a.stream.id) steps x refl in
    let s = count-raised (is_start a.stream.id) steps x (eq-true a.stream.id a.stream.id refl) in
    record {
      offer = h.offer ∙ sym (next-kept until steps x a refl refl few);
      its = h.its;
      count = shorter ring.waiting ∙ (let c = h.count in omega (arith, q, s, c));
      each = λ k y e. (let n : starts a.stream.id (steps ++ x ∷ []) + k ≡ starts a.stream.id steps + suc k = omega (arith, s) in
          ap (λ n. nth_that (is_queue a.stream.id) n (steps ++ x ∷ [])) n ∙ nth_that-more (is_queue a.stream.id) (starts a.stream.id steps + suc k) steps (x ∷ []) (Queue a.stream.id y.at y.event y.frame) (h.each (suc k) y (further ring.waiting k y e)));
    }
  where
    shorter : (ys : List Instance) → length (drop 1 ys) ≡ length ys - 1
    shorter [] = refl
    shorter (y ∷ ys) = omega arith

    further : (ys : List Instance) (k : ℕ) (y : Instance) → slice_get (drop 1 ys) k ≡ Some y → slice_get ys (suc k) ≡ Some y
    further [] k y e = e
    further (v ∷ ys) k y e = e

-- the start of a joiner leaves its ring empty
pub held-joiner : (until : ℕ) (steps : List Step) (z : ℕ) (a : Actor) (next : Option Offer) (ring : RingValue) → EndQueued steps → length ring.waiting ≡ 0 → IsHeld until steps a next ring →
    IsHeld until (steps ++ Start a.stream.id z ∷ []) a next ring
held-joiner until steps z a next ring few l h =
    let x = Start a.stream.id z in
    let q = count-kept (is_queue a.stream.id) steps x refl in
    let s = count-raised (is_start a.stream.id) steps x (eq-true a.stream.id a.stream.id refl) in
    record {
      offer = h.offer ∙ sym (next-kept until steps x a refl refl few);
      its = h.its;
      count = (let c = h.count in omega (arith, q, s, c, l));
      each = λ k y e. none ring.waiting l k y e;
    }
  where
    none : {P : Type 0} → (ys : List Instance) → length ys ≡ 0 → (k : ℕ) (y : Instance) → slice_get ys k ≡ Some y → P
    none [] l k y e = absurd (cc)
    none (v ∷ ys) l k y e = absurd (omega arith)

-- the queue step of a joiner that was sent leaves it so
pub held-joined : (until : ℕ) (steps : List Step) (o : Offer) (a : Actor) (next after : Option Offer) (ring : RingValue) → queues a.stream.id steps < starts a.stream.id steps → IsHeld until steps a next ring →
    after ≡ next_offer until (steps ++ queue_step a.stream.id o ∷ []) (length (steps ++ queue_step a.stream.id o ∷ [])) a → IsHeld until (steps ++ queue_step a.stream.id o ∷ []) a after ring
held-joined until steps o a next after ring l h again =
    let x = queue_step a.stream.id o in
    let q = count-raised (is_queue a.stream.id) steps x (eq-true a.stream.id a.stream.id refl) in
    let s = count-kept (is_start a.stream.id) steps x refl in
    record {
      offer = again;
      its = h.its;
      count = (let c = h.count in omega (arith, q, s, c, l));
      each = λ k y e. ap (λ n. nth_that (is_queue a.stream.id) (n + k) (steps ++ x ∷ [])) s ∙ nth_that-more (is_queue a.stream.id) (starts a.stream.id steps + k) steps (x ∷ []) (Queue a.stream.id y.at y.event y.frame) (h.each k y e);
    }

-- another queue step puts its instance behind the others
pub held-queued : (until : ℕ) (steps : List Step) (o : Offer) (y : Instance) (a : Actor) (next after : Option Offer) (ring : RingValue) → y.at ≡ queued_at o → y.event ≡ o.event → y.frame ≡ o.frame →
    starts a.stream.id steps ≤ queues a.stream.id steps → IsHeld until steps a next ring →
    after ≡ next_offer until (steps ++ queue_step a.stream.id o ∷ []) (length (steps ++ queue_step a.stream.id o ∷ [])) a →
    IsHeld until (steps ++ queue_step a.stream.id o ∷ []) a after (record { id = ring.id; waiting = ring.waiting ++ y ∷ []; most = ring.most })
held-queued until steps o y a next after ring e1 e2 e3 l h again =
    let x = queue_step a.stream.id o in
    let q = count-raised (is_queue a.stream.id) steps x (eq-true a.stream.id a.stream.id refl) in
    let s = count-kept (is_start a.stream.id) steps x refl in
    record {
      offer = again;
      its = h.its;
      count = (let c = h.count in let n = length-append ring.waiting (y ∷ []) in omega (arith, q, s, c, l, n));
      each = λ k v e. ap (λ n. nth_that (is_queue a.stream.id) (n + k) (steps ++ x ∷ [])) s ∙ elim (split ring.waiting k v e) [
        | inl f ↦ nth_that-more (is_queue a.stream.id) (starts a.stream.id steps + k) steps (x ∷ []) (Queue a.stream.id v.at v.event v.frame) (h.each k v f)
        | inr f ↦ (let c = h.count in let m : starts a.stream.id steps + k ≡ queues a.stream.id steps = (let g = f.0 in omega (arith, c, g, l)) in
            let here = step_at-here steps x [] in
            let t = nth_that-at (is_queue a.stream.id) (steps ++ x ∷ []) (length steps) (let n = length-one steps x in omega arith) (ap (is_queue a.stream.id) here ∙ eq-true a.stream.id a.stream.id refl) in
            let r = count_to-more (is_queue a.stream.id) steps (x ∷ []) (length steps) (omega arith) in
            let w : x ≡ Queue a.stream.id y.at y.event y.frame = ap (λ m. Queue a.stream.id m o.event o.frame) (sym e1) ∙ ap (λ m. Queue a.stream.id y.at m o.frame) (sym e2) ∙ ap (Queue a.stream.id y.at y.event) (sym e3) in
            ap (λ n. nth_that (is_queue a.stream.id) n (steps ++ x ∷ [])) (m ∙ sym r) ∙ t ∙ ap Some (here ∙ w) ∙ ap (λ u. Some (Queue a.stream.id u.at u.event u.frame)) f.1)
      ];
    }
  where
    split : (ys : List Instance) (k : ℕ) (v : Instance) → slice_get (ys ++ y ∷ []) k ≡ Some v → (slice_get ys k ≡ Some v) ⊎ ((k ≡ length ys) × (y ≡ v))
    split [] zero v e = inr (refl, some y v e)
      where
        some : (y v : Instance) → Some y ≡ Some v → y ≡ v
        some y v e = cc
    split [] (suc k) v e = (let z : None ≡ Some v = e in absurd (cc))
    split (u ∷ ys) zero v e = inl e
    split (u ∷ ys) (suc k) v e = elim (split ys k v e) [ inl f ↦ inl f | inr f ↦ inr (ap suc f.0, f.1) ]
