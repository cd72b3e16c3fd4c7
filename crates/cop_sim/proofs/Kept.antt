-- What a partial play keeps when it has one step more.
use Rattle.std.proofs.Common.{◌≡◌, ℕ, ◌≤◌, ◌<◌, ◌⊎◌, inl, inr, List, [], ◌∷◌, ◌++◌, length, take, refl, sym, ◌∙◌, ap, subst, arith, suc, zero, Bool, true, false, cond, nat_le, ◌+◌, ◌-◌, max}
use Rattle.std.specs.Prelude.{Option, None, Some, All, Any}
use Rattle.std.specs.Option.{option_and_then}
use Rattle.std.proofs.lemmas.Bool.{cases_lt, ne_eqb}
use Rattle.std.proofs.lemmas.List.Elements.{All-weaker}
use Rattle.cop_bus.specs.declared.steps.Step.{Step}
use Rattle.cop_bus.specs.declared.steps.Content.{Content}
use Rattle.cop_bus.specs.declared.steps.Step.TheVariants.{Queue, Start, End}
use Rattle.cop_bus.specs.Trace.{is_queue, count_to, nth_that, step_at}
use Rattle.cop_bus.specs.Judge.{waits_after}
use Rattle.cop_bus.proofs.Work.{true-le}
use Rattle.cop_bus.proofs.StepLemmas.{bool_cases, one-true, one-false, count_to-le, count_to-suc, nth_that-some, queue_shape, is_queue-of}
use Rattle.cop_sim.specs.declared.behaviours.Offer.{Offer}
use Rattle.cop_sim.specs.Play.{Actor, queued_at, queue_step, by_end, queued_before, next_answer, next_offer, QueuesItsOffers, Competes, SendsTheLowest, QueuesRise, StartsBefore, obeys, obeys_after}
use Rattle.cop_sim.specs.declared.cues.Cue.{Cue}
use Rattle.cop_sim.specs.declared.cues.Cue.TheVariants.{Own, Sync, Awaited}
use Rattle.cop_sim.specs.Cues.{cue_after, cue_of, awaited_sync, is_given, answer_in, filled, last_moment, from_of}
use Rattle.cop_sim.proofs.Cued.{EndQueued, before-more, before-kept, sync-new, cue-more, cue-at, cue-kept, cue-stays, cue-async, cue-sync, answered-given}
use Rattle.cop_bus.specs.Ends.{Ended, is_end, sync_number}
use Rattle.cop_rta.specs.Test.{sync_id}
use Rattle.cop_rta.specs.declared.streams.Stream.{Stream}
use Rattle.cop_bus.proofs.Grows.{step_at-more, count_to-more, waits_after-more}
use Rattle.cop_bus.proofs.Appended.{step_at-here, length-one, one-more, count_to-one}

-- a step of the longer trace is one of the steps before, or the last
pub at-cases : (steps : List Step) (x : Step) (i : ℕ) → i < length (steps ++ x ∷ []) →
    ((i < length steps) × (step_at (steps ++ x ∷ []) i ≡ step_at steps i)) ⊎ ((i ≡ length steps) × (step_at (steps ++ x ∷ []) i ≡ x))
at-cases steps x i l = elim (cases_lt i (length steps)) [
  | inl k ↦ inl (k, step_at-more steps (x ∷ []) i k)
  | inr k ↦ (let e : i ≡ length steps = (let n = length-one steps x in omega arith) in inr (e, ap (step_at (steps ++ x ∷ [])) e ∙ step_at-here steps x []))
]

pub option_cases : (o : Option Offer) → (o ≡ None) ⊎ ((x : Offer) × (o ≡ Some x))
option_cases None = inl refl
option_cases (Some x) = inr (x, refl)

pub by_end-is : (until : ℕ) (p o : Offer) → by_end until p ≡ Some o → (p ≡ o) × (queued_at o ≤ until)
by_end-is until p o h = elim (bool_cases (nat_le (queued_at p) until)) [
  | inl t ↦ (let e : p ≡ o = same p o (sym (ap (λ b. cond b (Some p) None) t) ∙ h) in (e, subst (λ v. queued_at v ≤ until) e (true-le (queued_at p) until t)))
  | inr f ↦ (let e : None ≡ Some o = sym (ap (λ b. cond b (Some p) None) f) ∙ h in absurd (cc))
]
  where
    same : (p o : Offer) → Some p ≡ Some o → p ≡ o
    same p o e = cc

-- the next offer is an answer, and is queued by the end
pub next-is : (until : ℕ) (steps : List Step) (i : ℕ) (a : Actor) (o : Offer) → next_offer until steps i a ≡ Some o → (next_answer steps i a ≡ Some o) × (queued_at o ≤ until)
next-is until steps i a o h = elim (option_cases (next_answer steps i a)) [
  | inl n ↦ (let e : None ≡ Some o = sym (ap (option_and_then (by_end until)) n) ∙ h in absurd (cc))
  | inr w ↦ (let b = by_end-is until w.0 o (sym (ap (option_and_then (by_end until)) w.1) ∙ h) in (w.1 ∙ ap Some b.0, b.1))
]

-- a step that does not queue an instance of the actor leaves its next offer
pub count-kept : (p : Step → Bool) (steps : List Step) (x : Step) → p x ≡ false → count_to p (steps ++ x ∷ []) (length (steps ++ x ∷ [])) ≡ count_to p steps (length steps)
count-kept p steps x f = let c = count_to-one p steps x in let z = one-false (p x) f in omega (arith, c, z)

pub count-raised : (p : Step → Bool) (steps : List Step) (x : Step) → p x ≡ true → count_to p (steps ++ x ∷ []) (length (steps ++ x ∷ [])) ≡ suc (count_to p steps (length steps))
count-raised p steps x f = let c = count_to-one p steps x in let z = one-true (p x) f in omega (arith, c, z)

pub answer-kept : (steps : List Step) (x : Step) (a : Actor) → is_queue a.stream.id x ≡ false → cue_of (steps ++ x ∷ []) (length (steps ++ x ∷ [])) a.stream ≡ cue_of steps (length steps) a.stream →
    next_answer (steps ++ x ∷ []) (length (steps ++ x ∷ [])) a ≡ next_answer steps (length steps) a
answer-kept steps x a f cue =
    ap (λ c. answer_in c (queued_before a.stream.id (steps ++ x ∷ []) (length (steps ++ x ∷ []))) (a.offer (count_to (is_queue a.stream.id) (steps ++ x ∷ []) (length (steps ++ x ∷ []))))) cue
    ∙ ap (λ b. answer_in (cue_of steps (length steps) a.stream) b (a.offer (count_to (is_queue a.stream.id) (steps ++ x ∷ []) (length (steps ++ x ∷ []))))) (before-kept a.stream.id steps x f)
    ∙ ap (λ n. answer_in (cue_of steps (length steps) a.stream) (queued_before a.stream.id steps (length steps)) (a.offer n)) (count-kept (is_queue a.stream.id) steps x f)

pub next-kept : (until : ℕ) (steps : List Step) (x : Step) (a : Actor) → is_queue a.stream.id x ≡ false → is_end sync_id x ≡ false → EndQueued steps →
    next_offer until (steps ++ x ∷ []) (length (steps ++ x ∷ [])) a ≡ next_offer until steps (length steps) a
next-kept until steps x a f g few = ap (option_and_then (by_end until)) (answer-kept steps x a f (cue-kept a.stream steps x f g few))

-- what is offered waits for nothing
pub offered-given : (until : ℕ) (steps : List Step) (i : ℕ) (a : Actor) (o : Offer) → next_offer until steps i a ≡ Some o → is_given (cue_of steps i a.stream) ≡ true
offered-given until steps i a o h =
    answered-given (cue_of steps i a.stream) (queued_before a.stream.id steps i) (a.offer (count_to (is_queue a.stream.id) steps i)) o (next-is until steps i a o h).0

-- so it stays after any other step
pub next-stays : (until : ℕ) (steps : List Step) (x : Step) (a : Actor) (o : Offer) → is_queue a.stream.id x ≡ false → next_offer until steps (length steps) a ≡ Some o →
    next_offer until (steps ++ x ∷ []) (length (steps ++ x ∷ [])) a ≡ Some o
next-stays until steps x a o f h =
    ap (option_and_then (by_end until)) (answer-kept steps x a f (cue-stays a.stream steps x f (offered-given until steps (length steps) a o h))) ∙ h

-- an end may be the SYNC's that a stream waited for: what is offered then is queued at the end or later
filled-after : (event ended : ℕ) (before answer : Option Offer) (o : Offer) → answer_in (Sync event ended) before answer ≡ Some o → ended ≤ queued_at o
filled-after event ended before None o h = absurd (cc)
filled-after event ended before (Some p) o h = subst (λ (v : Offer). ended ≤ queued_at v) (same (filled before event ended p) o h) (low (ended + p.delay) (last_moment before) (omega arith))
  where
    same : (x y : Offer) → Some x ≡ Some y → x ≡ y
    same x y e = cc

    low : (d m : ℕ) → ended ≤ d → ended ≤ event + (max d m - event)
    low d m l = omega arith

module _ (until : ℕ) (steps : List Step) (id at : ℕ) (a : Actor) (o : Offer) (few : EndQueued steps) (q : next_offer until (steps ++ End id at ∷ []) (length (steps ++ End id at ∷ [])) a ≡ Some o) where
  abbrev x : Step
  x = End id at

  abbrev m : ℕ
  m = awaited_sync a.stream (count_to (is_queue a.stream.id) steps (length steps))

  old : cue_of (steps ++ x ∷ []) (length (steps ++ x ∷ [])) a.stream ≡ cue_of steps (length steps) a.stream → (next_offer until steps (length steps) a ≡ Some o) ⊎ (at ≤ queued_at o)
  old e = inl (sym (ap (option_and_then (by_end until)) (answer-kept steps x a refl e)) ∙ q)

  new : 1 ≤ a.stream.every → (t : Option Ended) → sync_number steps m ≡ t → (next_offer until steps (length steps) a ≡ Some o) ⊎ (at ≤ queued_at o)
  new s (Some t) f = old (cue-stays a.stream steps x refl (ap is_given (cue-at a.stream steps ∙ ap (λ b. cond b Own (cue_after (sync_number steps m))) (ne_eqb a.stream.every 0 (λ e. omega arith)) ∙ ap cue_after f)))
  new s None f =
      let c = cue-sync a.stream (steps ++ x ∷ []) (length (steps ++ x ∷ [])) s (offered-given until (steps ++ x ∷ []) (length (steps ++ x ∷ [])) a o q) in
      let n = count-kept (is_queue a.stream.id) steps x refl in
      let g = sync-new steps id at m c.0 f few (ap (λ n. sync_number (steps ++ x ∷ []) (awaited_sync a.stream n)) (sym n) ∙ c.1) in
      let before = queued_before a.stream.id (steps ++ x ∷ []) (length (steps ++ x ∷ [])) in
      let answer = a.offer (count_to (is_queue a.stream.id) (steps ++ x ∷ []) (length (steps ++ x ∷ []))) in
      let l = filled-after (c.0).event (c.0).at before answer o (sym (ap (λ v. answer_in v before answer) c.2) ∙ (next-is until (steps ++ x ∷ []) (length (steps ++ x ∷ [])) a o q).0) in
      let e = g.0 in inr (omega (arith, l, e))

  pub next-at-end : (next_offer until steps (length steps) a ≡ Some o) ⊎ (at ≤ queued_at o)
  next-at-end = elim (cases_lt 0 a.stream.every) [
    | inr z ↦ (let async : a.stream.every ≡ 0 = omega arith in old (cue-async a.stream (steps ++ x ∷ []) (length (steps ++ x ∷ [])) async ∙ sym (cue-async a.stream steps (length steps) async)))
    | inl s ↦ new s (sync_number steps m) refl
  ]

pub obeys-by : (steps : List Step) (x : Step) (k : Stream) (o : Offer) → is_queue k.id x ≡ false → cue_of (steps ++ x ∷ []) (length (steps ++ x ∷ [])) k ≡ cue_of steps (length steps) k →
    obeys_after (steps ++ x ∷ []) (length (steps ++ x ∷ [])) k o ≡ obeys_after steps (length steps) k o
obeys-by steps x k o f cue =
    ap (λ b. obeys k b (from_of (cue_of (steps ++ x ∷ []) (length (steps ++ x ∷ [])) k) o) o) (before-kept k.id steps x f) ∙ ap (λ c. obeys k (queued_before k.id steps (length steps)) (from_of c o) o) cue

pub obeys-kept : (steps : List Step) (x : Step) (k : Stream) (o : Offer) → is_queue k.id x ≡ false → is_end sync_id x ≡ false → EndQueued steps →
    obeys_after (steps ++ x ∷ []) (length (steps ++ x ∷ [])) k o ≡ obeys_after steps (length steps) k o
obeys-kept steps x k o f g few = obeys-by steps x k o f (cue-kept k steps x f g few)

-- what is answered after the first steps is so whatever comes behind
pub answer-more : (steps more : List Step) (i : ℕ) (a : Actor) → i ≤ length steps → next_answer (steps ++ more) i a ≡ next_answer steps i a
answer-more steps more i a l =
    ap (λ c. answer_in c (queued_before a.stream.id (steps ++ more) i) (a.offer (count_to (is_queue a.stream.id) (steps ++ more) i))) (cue-more a.stream steps more i l)
    ∙ ap (λ b. answer_in (cue_of steps i a.stream) b (a.offer (count_to (is_queue a.stream.id) (steps ++ more) i))) (before-more a.stream.id steps more i l)
    ∙ ap (λ n. answer_in (cue_of steps i a.stream) (queued_before a.stream.id steps i) (a.offer n)) (count_to-more (is_queue a.stream.id) steps more i l)

-- an offer has the frame of the answer
answer-frame : (cue : Cue) (before answer : Option Offer) (o : Offer) → answer_in cue before answer ≡ Some o → (p : Offer) × (answer ≡ Some p) × (o.frame ≡ p.frame)
answer-frame Own before answer o h = (o, h, refl)
answer-frame (Sync event ended) before None o h = absurd (cc)
answer-frame (Sync event ended) before (Some p) o h = (p, refl, sym (ap (λ (v : Offer). v.frame) (same (filled before event ended p) o h)))
  where
    same : (x y : Offer) → Some x ≡ Some y → x ≡ y
    same x y e = cc
answer-frame Awaited before answer o h = absurd (cc)

-- the first steps by themselves
step-front : (steps : List Step) (i : ℕ) → i < length steps → (rest : List Step) × (steps ≡ take i steps ++ step_at steps i ∷ rest) × (length (take i steps) ≡ i)
step-front [] i l = absurd (omega arith)
step-front (y ∷ steps) zero l = (steps, refl, refl)
step-front (y ∷ steps) (suc i) l = (let r = step-front steps i (omega arith) in (r.0, ap (λ t. y ∷ t) r.1, ap suc r.2))

-- a stream that queues nothing goes on to answer what it did
answer-on : (steps : List Step) (a : Actor) (o : Offer) (i : ℕ) → i < length steps → is_queue a.stream.id (step_at steps i) ≡ false → next_answer steps i a ≡ Some o → next_answer steps (suc i) a ≡ Some o
answer-on steps a o i l f h =
    let r = step-front steps i l in
    let p = take i steps in
    let x = step_at steps i in
    let one : steps ≡ (p ++ x ∷ []) ++ r.0 = r.1 ∙ sym (one-more p x r.0) in
    let long : length (p ++ x ∷ []) ≡ suc i = length-one p x ∙ ap suc r.2 in
    let front : next_answer p (length p) a ≡ Some o =
    sym (ap (λ t. next_answer t i a) r.1 ∙ ap (λ n. next_answer (p ++ x ∷ r.0) n a) (sym r.2) ∙ answer-more p (x ∷ r.0) (length p) a (omega arith)) ∙ h in
    let given = answered-given (cue_of p (length p) a.stream) (queued_before a.stream.id p (length p)) (a.offer (count_to (is_queue a.stream.id) p (length p))) o front in
    ap (λ t. next_answer t (suc i) a) one ∙ ap (λ n. next_answer ((p ++ x ∷ []) ++ r.0) n a) (sym long) ∙ answer-more (p ++ x ∷ []) r.0 (length (p ++ x ∷ [])) a (omega arith)
    ∙ answer-kept p x a f (cue-stays a.stream p x f given) ∙ front

pub answer-stays : (steps : List Step) (a : Actor) (o : Offer) (d i j : ℕ) → i + d ≡ j → j ≤ length steps → count_to (is_queue a.stream.id) steps j ≡ count_to (is_queue a.stream.id) steps i → next_answer steps i a ≡ Some o → next_answer steps j a ≡ Some o
answer-stays steps a o zero i j e l n h = (let q : i ≡ j = omega arith in subst (λ k. next_answer steps k a ≡ Some o) q h)
answer-stays steps a o (suc d) i j e l n h =
    let p = is_queue a.stream.id in
    let m = count_to-le p steps (suc i) j (omega arith) in
    let s = count_to-suc p steps i (omega arith) in
    elim (bool_cases (p (step_at steps i))) [
      | inl t ↦ (let z = one-true (p (step_at steps i)) t in absurd (omega (arith, m, s, z, n)))
      | inr f ↦ (let z = one-false (p (step_at steps i)) f in
          answer-stays steps a o d (suc i) j (omega arith) l (omega (arith, s, z, n)) (answer-on steps a o i (omega arith) f h))
    ]

-- each queues its offers still, if what is queued is the next one
pub offers-one : (until : ℕ) (steps : List Step) (x : Step) (a : Actor) → QueuesItsOffers steps a →
    (is_queue a.stream.id x ≡ true → (o : Offer) × (next_offer until steps (length steps) a ≡ Some o) × (x ≡ queue_step a.stream.id o)) → QueuesItsOffers (steps ++ x ∷ []) a
offers-one until steps x a h new i at event frame l e = elim (at-cases steps x i l) [
  | inl k ↦ (let w = h i at event frame k.0 (sym k.1 ∙ e) in (w.0, answer-more steps (x ∷ []) i a (omega (arith, k.0)) ∙ w.1, k.1 ∙ w.2))
  | inr k ↦ (let w = new (is_queue-of a.stream.id x at event frame (sym k.1 ∙ e)) in
      let n = next-is until steps (length steps) a w.0 w.1 in
      (w.0, ap (λ j. next_answer (steps ++ x ∷ []) j a) k.0 ∙ answer-more steps (x ∷ []) (length steps) a (omega arith) ∙ n.0, k.1 ∙ w.2))
]

-- so number j of its queue steps is of the frame that its answer of this number has
pub frame-by_number : (steps : List Step) (a : Actor) → QueuesItsOffers steps a → (j : ℕ) (x : Step) → nth_that (is_queue a.stream.id) j steps ≡ Some x →
    (o : Offer) × (a.offer j ≡ Some o) × ((at : ℕ) × (event : ℕ) × (x ≡ Queue a.stream.id at event o.frame))
frame-by_number steps a h j x e =
    let n = nth_that-some (is_queue a.stream.id) j steps x e in
    let q = queue_shape a.stream.id x n.3 in
    let w = h n.0 q.0 q.1 q.2 n.1 (n.2 ∙ q.3) in
    let r = answer-frame (cue_of steps n.0 a.stream) (queued_before a.stream.id steps n.0) (a.offer (count_to (is_queue a.stream.id) steps n.0)) w.0 w.1 in
    (r.0, ap a.offer (sym n.4) ∙ r.1, (queued_at w.0, w.0.event, sym n.2 ∙ w.2 ∙ ap (Queue a.stream.id (queued_at w.0) w.0.event) r.2))

pub rising-one : (steps : List Step) (x : Step) → QueuesRise steps →
    ((i at id id' event event' : ℕ) (frame frame' : Content) → i < length steps → step_at steps i ≡ Queue id at event frame → x ≡ Queue id' at event' frame' → id ≤ id') → QueuesRise (steps ++ x ∷ [])
rising-one steps x h new i j at id id' event event' frame frame' l m e f =
    let n = length-one steps x in
    let li : i < length steps = omega arith in
    let ei = sym (step_at-more steps (x ∷ []) i li) ∙ e in
    elim (at-cases steps x j m) [
      | inl k ↦ h i j at id id' event event' frame frame' l k.0 ei (sym k.1 ∙ f)
      | inr k ↦ new i at id id' event event' frame frame' li ei (sym k.1 ∙ f)
    ]

pub starts-one : (until : ℕ) (steps : List Step) (x : Step) → StartsBefore until steps → ((z id : ℕ) → x ≡ Start id z → z < until) → StartsBefore until (steps ++ x ∷ [])
starts-one until steps x h new i z id l e = elim (at-cases steps x i l) [
  | inl k ↦ h i z id k.0 (sym k.1 ∙ e)
  | inr k ↦ new z id (sym k.1 ∙ e)
]

-- who competes at a start does so with more steps behind, and the other way round
module _ (tau until : ℕ) (steps more : List Step) (i z : ℕ) (l : i ≤ length steps) (a : Actor) where
  pub same-next : next_offer until (steps ++ more) i a ≡ next_offer until steps i a
  same-next = ap (option_and_then (by_end until)) (answer-more steps more i a l)

  same-waits : waits_after (steps ++ more) i a.stream.id ≡ waits_after steps i a.stream.id
  same-waits = waits_after-more steps more i a.stream.id l

  pub competes-more : Competes tau until steps i z a → Competes tau until (steps ++ more) i z a
  competes-more c = elim c [
    | inl w ↦ inl (same-waits ∙ w)
    | inr j ↦ inr (record { none_waits = same-waits ∙ j.none_waits; next = j.next; is_next = same-next ∙ j.is_next; after_start = j.after_start; soon = j.soon; says_so = j.says_so })
  ]

  pub competes-less : Competes tau until (steps ++ more) i z a → Competes tau until steps i z a
  competes-less c = elim c [
    | inl w ↦ inl (sym same-waits ∙ w)
    | inr j ↦ inr (record { none_waits = sym same-waits ∙ j.none_waits; next = j.next; is_next = sym same-next ∙ j.is_next; after_start = j.after_start; soon = j.soon; says_so = j.says_so })
  ]

-- the lowest of those that wait or join is sent at a start after the steps
abbrev pub SendsLowestHere : ℕ → List Actor → ℕ → List Step → ℕ → ℕ → Type 0
SendsLowestHere tau actors until steps z id =
    Any (λ a. (a.stream.id ≡ id) × Competes tau until steps (length steps) z a) actors × All (λ a. Competes tau until steps (length steps) z a → id ≤ a.stream.id) actors

pub lowest-one : (tau : ℕ) (actors : List Actor) (until : ℕ) (steps : List Step) (x : Step) → SendsTheLowest tau actors until steps →
    ((z id : ℕ) → x ≡ Start id z → SendsLowestHere tau actors until steps z id) → SendsTheLowest tau actors until (steps ++ x ∷ [])
lowest-one tau actors until steps x h new i z id l e = elim (at-cases steps x i l) [
  | inl k ↦ go i (omega (arith, k.0)) (h i z id k.0 (sym k.1 ∙ e))
  | inr k ↦ subst (λ n. At n (steps ++ x ∷ [])) (sym k.0) (go (length steps) (omega arith) (new z id (sym k.1 ∙ e)))
]
  where
    At : ℕ → List Step → Type 0
    At n xs = Any (λ a. (a.stream.id ≡ id) × Competes tau until xs n z a) actors × All (λ a. Competes tau until xs n z a → id ≤ a.stream.id) actors

    go : (n : ℕ) → n ≤ length steps → At n steps → At n (steps ++ x ∷ [])
    go n m w =
        let s = w.0 in (
          (s.0, s.1, s.2, s.3, ((s.4).0, competes-more tau until steps (x ∷ []) n z m s.1 (s.4).1)),
          All-weaker (λ a. Competes tau until steps n z a → id ≤ a.stream.id) (λ a. Competes tau until (steps ++ x ∷ []) n z a → id ≤ a.stream.id)
              (λ a f c. f (competes-less tau until steps (x ∷ []) n z m a c)) actors w.1,
        )
