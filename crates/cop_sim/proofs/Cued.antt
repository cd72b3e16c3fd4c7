-- What a stream's next answer waits for, and the offer before it, where a step more comes.
use Rattle.std.proofs.Common.{◌≡◌, ℕ, ◌+◌, ◌-◌, ◌≤◌, ◌<◌, inl, inr, List, [], ◌∷◌, ◌++◌, length, take, drop, refl, sym, ◌∙◌, ap, subst, arith, suc, zero, Bool, true, false, cond, max, nat_le, ◌&&◌, ◌||◌}
use Rattle.std.specs.Prelude.{Option, None, Some, ◌==◌}
use Rattle.std.proofs.Math.Seq.{take-length}
use Rattle.std.proofs.lemmas.List.{take-append-le, take-append-drop}
use Rattle.std.proofs.lemmas.Bool.{ne_eqb, eq-eqb}
use Rattle.cop_rta.specs.declared.streams.Stream.{Stream}
use Rattle.cop_rta.specs.Test.{sync_id}
use Rattle.cop_bus.specs.declared.steps.Step.{Step}
use Rattle.cop_bus.specs.declared.steps.Content.{Content}
use Rattle.cop_bus.specs.declared.steps.Step.TheVariants.{Queue, Start, End}
use Rattle.cop_bus.specs.Trace.{is_queue, count_to, nth_that, step_at, moment_of, at_of}
use Rattle.cop_bus.specs.Judge.{last_event, event_or}
use Rattle.cop_bus.specs.Ends.{Ended, is_end, event_in, ended_by, sync_number}
use Rattle.cop_bus.proofs.AnchorLemmas.{ended_parts}
use Rattle.cop_bus.proofs.Work.{eq-true, true-eq, lt-true, le-true}
use Rattle.cop_bus.proofs.StepLemmas.{bool_cases, one-true, one-false, nth_that-some, nth_that-at, nth_before, queue_shape, count_to-suc, count_to-past, count_to-zero}
use Rattle.cop_bus.proofs.Grows.{step_at-more, count_to-more, nth_that-more}
use Rattle.cop_bus.proofs.Appended.{step_at-here, length-one, count_to-one, nth_that-one}
use Rattle.cop_sim.specs.declared.behaviours.Offer.{Offer}
use Rattle.cop_sim.specs.declared.cues.Cue.{Cue}
use Rattle.cop_sim.specs.declared.cues.Cue.TheVariants.{Own, Sync, Awaited}
use Rattle.cop_sim.specs.Cues.{cue_after, awaited_sync, cue_by, cue_of, is_given, answer_in, filled}
use Rattle.cop_sim.specs.Play.{Actor, queued_at, queue_step, offer_or, queued_before, event_of, next_answer, QueuesItsOffers, is_later, is_in_time, obeys}
use Rattle.cop_bus.specs.Judge.{is_of_length}

-- ---- what is found with one step more

pub nth-kept : (p : Step → Bool) (xs : List Step) (x : Step) → p x ≡ false → (j : ℕ) → nth_that p j (xs ++ x ∷ []) ≡ nth_that p j xs
nth-kept p xs x f j = go (nth_that p j xs) refl (nth_that p j (xs ++ x ∷ [])) refl
  where
    go : (o : Option Step) → nth_that p j xs ≡ o → (q : Option Step) → nth_that p j (xs ++ x ∷ []) ≡ q → q ≡ o
    go (Some y) e q g = sym g ∙ nth_that-more p j xs (x ∷ []) y e
    go None e None g = refl
    go None e (Some y) g = elim (nth_that-one p xs x j y g) [
      | inl a ↦ (let z : None ≡ Some y = sym e ∙ a in absurd (cc))
      | inr a ↦ (let t = a.2 in let z : true ≡ false = sym t ∙ f in absurd (cc))
    ]

-- one that is found has a number below their count
pub nth-count : (p : Step → Bool) (xs : List Step) (j : ℕ) (y : Step) → nth_that p j xs ≡ Some y → j < count_to p xs (length xs)
nth-count p xs j y e =
    let n = nth_that-some p j xs y e in
    let c = count_to-past p xs n.0 (length xs) n.1 n.1 (ap p n.2 ∙ n.3) in
    let m = n.4 in omega (arith, c, m)

pub nth-there : (p : Step → Bool) (xs : List Step) (j : ℕ) → j < count_to p xs (length xs) → (y : Step) × (nth_that p j xs ≡ Some y) × (p y ≡ true)
nth-there p xs j l =
    let b = nth_before p xs (length xs) j l in
    (step_at xs b.0, ap (λ n. nth_that p n xs) (sym b.4) ∙ nth_that-at p xs b.0 b.2 b.3, b.3)

-- ---- SYNCs that have ended

event-stays : (p : Step → Bool) (xs ys : List Step) (a event : ℕ) → event_in (nth_that p a xs) ≡ Some event → event_in (nth_that p a (xs ++ ys)) ≡ Some event
event-stays p xs ys a event h = go (nth_that p a xs) refl h
  where
    go : (o : Option Step) → nth_that p a xs ≡ o → event_in o ≡ Some event → event_in (nth_that p a (xs ++ ys)) ≡ Some event
    go None e g = absurd (cc)
    go (Some y) e g = ap event_in (nth_that-more p a xs ys y e) ∙ g

moment-stays : (p : Step → Bool) (xs ys : List Step) (a at : ℕ) → moment_of (nth_that p a xs) ≡ Some at → moment_of (nth_that p a (xs ++ ys)) ≡ Some at
moment-stays p xs ys a at h = go (nth_that p a xs) refl h
  where
    go : (o : Option Step) → nth_that p a xs ≡ o → moment_of o ≡ Some at → moment_of (nth_that p a (xs ++ ys)) ≡ Some at
    go None e g = absurd (cc)
    go (Some y) e g = ap moment_of (nth_that-more p a xs ys y e) ∙ g

pub sync-stays : (xs ys : List Step) (a : ℕ) (e : Ended) → sync_number xs a ≡ Some e → sync_number (xs ++ ys) a ≡ Some e
sync-stays xs ys a e h =
    let p = ended_parts (event_in (nth_that (is_queue sync_id) a xs)) (moment_of (nth_that (is_end sync_id) a xs)) e h in
    ap (λ o. ended_by o (moment_of (nth_that (is_end sync_id) a (xs ++ ys)))) (event-stays (is_queue sync_id) xs ys a e.event p.0)
    ∙ ap (ended_by (Some e.event)) (moment-stays (is_end sync_id) xs ys a e.at p.1)

-- as many SYNCs are queued as have ended
abbrev pub EndQueued : List Step → Type 0
EndQueued steps = count_to (is_end sync_id) steps (length steps) ≤ count_to (is_queue sync_id) steps (length steps)

event-of : (y : Step) → is_queue sync_id y ≡ true → (event : ℕ) × (event_in (Some y) ≡ Some event)
event-of y q = (let s = queue_shape sync_id y q in (s.1, ap (λ z. event_in (Some z)) s.3))

-- a SYNC whose end is there is there
pub sync-there : (xs : List Step) → EndQueued xs → (a : ℕ) → a < count_to (is_end sync_id) xs (length xs) → (e : Ended) × (sync_number xs a ≡ Some e)
sync-there xs few a l =
    let y = nth-there (is_end sync_id) xs a l in
    let z = nth-there (is_queue sync_id) xs a (omega (arith, l, few)) in
    let v = event-of z.0 z.2 in
    (record { event = v.0; at = at_of y.0 }, ap (λ o. ended_by o (moment_of (nth_that (is_end sync_id) a xs))) (ap event_in z.1 ∙ v.1) ∙ ap (ended_by (Some v.0)) (ap moment_of y.1))

moment-there : (o : Option Step) (at : ℕ) → moment_of o ≡ Some at → (x : Step) × (o ≡ Some x)
moment-there None at h = absurd (cc)
moment-there (Some x) at h = (x, refl)

pub sync-before : (xs : List Step) (a : ℕ) (e : Ended) → sync_number xs a ≡ Some e → a < count_to (is_end sync_id) xs (length xs)
sync-before xs a e h =
    let p = ended_parts (event_in (nth_that (is_queue sync_id) a xs)) (moment_of (nth_that (is_end sync_id) a xs)) e h in
    let y = moment-there (nth_that (is_end sync_id) a xs) e.at p.1 in
    nth-count (is_end sync_id) xs a y.0 y.1

none-by : (o : Option ℕ) → ended_by o None ≡ None
none-by None = refl
none-by (Some e) = refl

-- a step that is no end of SYNC's leaves them
pub sync-kept : (xs : List Step) (x : Step) → is_end sync_id x ≡ false → EndQueued xs → (a : ℕ) → sync_number (xs ++ x ∷ []) a ≡ sync_number xs a
sync-kept xs x f few a = go (sync_number xs a) refl
  where
    go : (o : Option Ended) → sync_number xs a ≡ o → sync_number (xs ++ x ∷ []) a ≡ o
    go (Some e) g = sync-stays xs (x ∷ []) a e g
    go None g = none (nth_that (is_end sync_id) a xs) refl
      where
        none : (o : Option Step) → nth_that (is_end sync_id) a xs ≡ o → sync_number (xs ++ x ∷ []) a ≡ None
        none None e = ap (λ v. ended_by (event_in (nth_that (is_queue sync_id) a (xs ++ x ∷ []))) (moment_of v)) (nth-kept (is_end sync_id) xs x f a ∙ e) ∙ none-by (event_in (nth_that (is_queue sync_id) a (xs ++ x ∷ [])))
        none (Some y) e =
            let t = sync-there xs few a (nth-count (is_end sync_id) xs a y e) in
            let z : None ≡ Some t.0 = sym g ∙ t.1 in absurd (cc)

-- one that has ended with the last step has ended then
pub sync-new : (xs : List Step) (id at a : ℕ) (e : Ended) → sync_number xs a ≡ None → EndQueued xs → sync_number (xs ++ End id at ∷ []) a ≡ Some e → (e.at ≡ at) × (id ≡ sync_id) × (a ≡ count_to (is_end sync_id) xs (length xs))
sync-new xs id at a e none few h =
    let p = ended_parts (event_in (nth_that (is_queue sync_id) a (xs ++ End id at ∷ []))) (moment_of (nth_that (is_end sync_id) a (xs ++ End id at ∷ []))) e h in
    go (nth_that (is_end sync_id) a (xs ++ End id at ∷ [])) refl p.1
  where
    go : (o : Option Step) → nth_that (is_end sync_id) a (xs ++ End id at ∷ []) ≡ o → moment_of o ≡ Some e.at → (e.at ≡ at) × (id ≡ sync_id) × (a ≡ count_to (is_end sync_id) xs (length xs))
    go None f g = absurd (cc)
    go (Some y) f g = elim (nth_that-one (is_end sync_id) xs (End id at) a y f) [
      | inl old ↦ (let t = sync-there xs few a (nth-count (is_end sync_id) xs a y old) in let z : None ≡ Some t.0 = sym none ∙ t.1 in absurd (cc))
      | inr new ↦ (let w = new.1 in let v : moment_of (Some (End id at)) ≡ Some e.at = sym (ap (λ s. moment_of (Some s)) w) ∙ g in
          let q : at ≡ e.at = cc in (sym q, same (id == sync_id) refl new.2, new.0))
    ]
      where
        same : (b : Bool) → (id == sync_id) ≡ b → b ≡ true → id ≡ sync_id
        same true e t = true-eq id sync_id e
        same false e t = absurd (cc)

-- ---- the offer before

pub before-more : (k : ℕ) (xs ys : List Step) (i : ℕ) → i ≤ length xs → queued_before k (xs ++ ys) i ≡ queued_before k xs i
before-more k xs ys zero l = refl
before-more k xs ys (suc i) l = ap (λ x. offer_or k x (queued_before k (xs ++ ys) i)) (step_at-more xs ys i (omega arith)) ∙ ap (offer_or k (step_at xs i)) (before-more k xs ys i (omega arith))

pub before-one : (k : ℕ) (xs : List Step) (x : Step) → queued_before k (xs ++ x ∷ []) (length (xs ++ x ∷ [])) ≡ offer_or k x (queued_before k xs (length xs))
before-one k xs x =
    ap (queued_before k (xs ++ x ∷ [])) (length-one xs x)
    ∙ ap (λ y. offer_or k y (queued_before k (xs ++ x ∷ []) (length xs))) (step_at-here xs x []) ∙ ap (offer_or k x) (before-more k xs (x ∷ []) (length xs) (omega arith))

offer-other : (k : ℕ) (x : Step) (b : Option Offer) → is_queue k x ≡ false → offer_or k x b ≡ b
offer-other k (Queue id at event frame) b f = ap (λ v. cond v (Some (record { event = event; delay = at - event; frame = frame })) b) f
offer-other k (Start id at) b f = refl
offer-other k (End id at) b f = refl

pub before-kept : (k : ℕ) (xs : List Step) (x : Step) → is_queue k x ≡ false → queued_before k (xs ++ x ∷ []) (length (xs ++ x ∷ [])) ≡ queued_before k xs (length xs)
before-kept k xs x f = before-one k xs x ∙ offer-other k x (queued_before k xs (length xs)) f

offer-own : (id : ℕ) (o : Offer) (b : Option Offer) → offer_or id (queue_step id o) b ≡ Some o
offer-own id o b =
    let d : o.event + o.delay - o.event ≡ o.delay = omega arith in
    ap (λ v. cond v (Some (record { event = o.event; delay = o.event + o.delay - o.event; frame = o.frame })) b) (eq-true id id refl) ∙ ap (λ n. Some (record { event = o.event; delay = n; frame = o.frame })) d

pub before-own : (id : ℕ) (xs : List Step) (o : Offer) → queued_before id (xs ++ queue_step id o ∷ []) (length (xs ++ queue_step id o ∷ [])) ≡ Some o
before-own id xs o = before-one id xs (queue_step id o) ∙ offer-own id o (queued_before id xs (length xs))

-- the last event is that of the offer before
pub last_event-is : (k : ℕ) (xs : List Step) (i : ℕ) → last_event k xs i ≡ event_of (queued_before k xs i)
last_event-is k xs zero = refl
last_event-is k xs (suc i) = ap (event_or k (step_at xs i)) (last_event-is k xs i) ∙ go (step_at xs i) (queued_before k xs i)
  where
    go : (x : Step) (b : Option Offer) → event_or k x (event_of b) ≡ event_of (offer_or k x b)
    go (Queue id at event frame) b = if-so (id == k)
      where
        if-so : (v : Bool) → cond v (Some event) (event_of b) ≡ event_of (cond v (Some (record { event = event; delay = at - event; frame = frame })) b)
        if-so true = refl
        if-so false = refl
    go (Start id at) b = refl
    go (End id at) b = refl

-- the step that queued it
abbrev pub IsQueuedBy : ℕ → List Step → ℕ → Offer → Type 0
IsQueuedBy k xs i b = (j : ℕ) × (j < i) × ((at : ℕ) × (step_at xs j ≡ Queue k at b.event b.frame) × (b.delay ≡ at - b.event)) × (suc (count_to (is_queue k) xs j) ≡ count_to (is_queue k) xs i)

module _ (k : ℕ) (xs : List Step) (i : ℕ) (b : Offer) (l : suc i ≤ length xs) (before : queued_before k xs i ≡ Some b → IsQueuedBy k xs i b) where
  counts : count_to (is_queue k) xs (suc i) ≡ count_to (is_queue k) xs i + cond (is_queue k (step_at xs i)) 1 0
  counts = count_to-suc (is_queue k) xs i (omega arith)

  further : is_queue k (step_at xs i) ≡ false → queued_before k xs i ≡ Some b → IsQueuedBy k xs (suc i) b
  further f g =
      let r = before g in
      let z = one-false (is_queue k (step_at xs i)) f in
      let c = counts in let m = r.1 in let n = r.3 in
      (r.0, omega (arith, m), r.2, omega (arith, c, z, n))

  abbrev offered : ℕ → ℕ → Content → Offer
  offered at event frame = record { event = event; delay = at - event; frame = frame }

  same-offer : (x y : Offer) → Some x ≡ Some y → x ≡ y
  same-offer x y e = cc

  by-step : (x : Step) → step_at xs i ≡ x → offer_or k x (queued_before k xs i) ≡ Some b → IsQueuedBy k xs (suc i) b
  by-step (Queue id at event frame) e g = elim (bool_cases (id == k)) [
    | inr f ↦ further (ap (is_queue k) e ∙ f) (sym (ap (λ v. cond v (Some (offered at event frame)) (queued_before k xs i)) f) ∙ g)
    | inl t ↦ (let q = same-offer (offered at event frame) b (sym (ap (λ v. cond v (Some (offered at event frame)) (queued_before k xs i)) t) ∙ g) in
        let z = one-true (is_queue k (step_at xs i)) (ap (is_queue k) e ∙ t) in let c = counts in
        (i, omega arith, (at, e ∙ ap (λ n. Queue n at event frame) (true-eq id k t) ∙ ap (λ (o : Offer). Queue k at o.event o.frame) q, sym (ap (λ (o : Offer). o.delay) q) ∙ ap (λ (o : Offer). at - o.event) q), omega (arith, c, z)))
  ]
  by-step (Start id at) e g = further (ap (is_queue k) e) g
  by-step (End id at) e g = further (ap (is_queue k) e) g

pub before-step : (k : ℕ) (xs : List Step) (i : ℕ) (b : Offer) → i ≤ length xs → queued_before k xs i ≡ Some b → IsQueuedBy k xs i b
before-step k xs zero b l h = absurd (cc)
before-step k xs (suc i) b l h = by-step k xs i b l (before-step k xs i b (omega arith)) (step_at xs i) refl h

-- ---- what the next answer waits for

pub cue-more : (k : Stream) (xs ys : List Step) (i : ℕ) → i ≤ length xs → cue_of (xs ++ ys) i k ≡ cue_of xs i k
cue-more k xs ys i l = ap (λ t. cue_by t k (count_to (is_queue k.id) (xs ++ ys) i)) (take-append-le i xs ys l) ∙ ap (cue_by (take i xs) k) (count_to-more (is_queue k.id) xs ys i l)

pub cue-at : (k : Stream) (xs : List Step) → cue_of xs (length xs) k ≡ cue_by xs k (count_to (is_queue k.id) xs (length xs))
cue-at k xs = ap (λ t. cue_by t k (count_to (is_queue k.id) xs (length xs))) (take-length xs)

counted : (p : Step → Bool) (xs : List Step) (x : Step) → p x ≡ false → count_to p (xs ++ x ∷ []) (length (xs ++ x ∷ [])) ≡ count_to p xs (length xs)
counted p xs x f = let c = count_to-one p xs x in let z = one-false (p x) f in omega (arith, c, z)

pub cue-kept : (k : Stream) (xs : List Step) (x : Step) → is_queue k.id x ≡ false → is_end sync_id x ≡ false → EndQueued xs → cue_of (xs ++ x ∷ []) (length (xs ++ x ∷ [])) k ≡ cue_of xs (length xs) k
cue-kept k xs x f g few =
    cue-at k (xs ++ x ∷ []) ∙ ap (cue_by (xs ++ x ∷ []) k) (counted (is_queue k.id) xs x f)
    ∙ ap (λ o. cond (k.every == 0) Own (cue_after o)) (sync-kept xs x g few (awaited_sync k (count_to (is_queue k.id) xs (length xs)))) ∙ sym (cue-at k xs)

-- a SYNC that has ended has ended after another step, too
given-stays : (k : Stream) (xs ys : List Step) (n : ℕ) → is_given (cue_by xs k n) ≡ true → cue_by (xs ++ ys) k n ≡ cue_by xs k n
given-stays k xs ys n h = go (k.every == 0) h
  where
    go : (b : Bool) → is_given (cond b Own (cue_after (sync_number xs (awaited_sync k n)))) ≡ true → cond b Own (cue_after (sync_number (xs ++ ys) (awaited_sync k n))) ≡ cond b Own (cue_after (sync_number xs (awaited_sync k n)))
    go true h = refl
    go false h = so (sync_number xs (awaited_sync k n)) refl h
      where
        so : (o : Option Ended) → sync_number xs (awaited_sync k n) ≡ o → is_given (cue_after o) ≡ true → cue_after (sync_number (xs ++ ys) (awaited_sync k n)) ≡ cue_after o
        so None e h = absurd (cc)
        so (Some e) f h = ap cue_after (sync-stays xs ys (awaited_sync k n) e f)

pub cue-stays : (k : Stream) (xs : List Step) (x : Step) → is_queue k.id x ≡ false → is_given (cue_of xs (length xs) k) ≡ true → cue_of (xs ++ x ∷ []) (length (xs ++ x ∷ [])) k ≡ cue_of xs (length xs) k
cue-stays k xs x f h =
    cue-at k (xs ++ x ∷ []) ∙ ap (cue_by (xs ++ x ∷ []) k) (counted (is_queue k.id) xs x f)
    ∙ given-stays k xs (x ∷ []) (count_to (is_queue k.id) xs (length xs)) (sym (ap is_given (cue-at k xs)) ∙ h) ∙ sym (cue-at k xs)

-- what is answered is no more waited for
pub answered-given : (cue : Cue) (before answer : Option Offer) (o : Offer) → answer_in cue before answer ≡ Some o → is_given cue ≡ true
answered-given Own before answer o h = refl
answered-given (Sync event ended) before answer o h = refl
answered-given Awaited before answer o h = absurd (cc)

-- a synchronous stream's answer is for a SYNC that has ended, and has its event
pub cue-sync : (k : Stream) (xs : List Step) (i : ℕ) → 1 ≤ k.every → is_given (cue_of xs i k) ≡ true →
    (e : Ended) × (sync_number xs (awaited_sync k (count_to (is_queue k.id) xs i)) ≡ Some e) × (cue_of xs i k ≡ Sync e.event e.at)
cue-sync k xs i s h = go (awaited_sync k (count_to (is_queue k.id) xs i)) (ap (λ b. cond b Own (cue_after (sync_number (take i xs) (awaited_sync k (count_to (is_queue k.id) xs i))))) (ne_eqb k.every 0 (λ e. omega arith))) (sync_number (take i xs) (awaited_sync k (count_to (is_queue k.id) xs i))) refl
  where
    go : (m : ℕ) → cue_of xs i k ≡ cue_after (sync_number (take i xs) m) → (o : Option Ended) → sync_number (take i xs) m ≡ o → (e : Ended) × (sync_number xs m ≡ Some e) × (cue_of xs i k ≡ Sync e.event e.at)
    go m is None f = (let z : false ≡ true = sym (ap is_given (is ∙ ap cue_after f)) ∙ h in absurd (cc))
    go m is (Some e) f = (e, subst (λ t. sync_number t m ≡ Some e) (take-append-drop i xs) (sync-stays (take i xs) (drop i xs) m e f), is ∙ ap cue_after f)

pub filled-event : (event ended : ℕ) (before answer : Option Offer) (o : Offer) → answer_in (Sync event ended) before answer ≡ Some o → o.event ≡ event
filled-event event ended before None o h = absurd (cc)
filled-event event ended before (Some p) o h = sym (ap (λ (v : Offer). v.event) (same (filled before event ended p) o h))
  where
    same : (x y : Offer) → Some x ≡ Some y → x ≡ y
    same x y e = cc

pub cue-async : (k : Stream) (xs : List Step) (i : ℕ) → k.every ≡ 0 → cue_of xs i k ≡ Own
cue-async k xs i z = ap (λ b. cond b Own (cue_after (sync_number (take i xs) (awaited_sync k (count_to (is_queue k.id) xs i))))) (eq-eqb k.every 0 z)

-- what was queued by the end of the SYNC does not hold the answer back
pub fill-none : (event ended : ℕ) (before answer : Option Offer) → ((b : Offer) → before ≡ Some b → queued_at b ≤ ended) → answer_in (Sync event ended) None answer ≡ answer_in (Sync event ended) before answer
fill-none event ended before None h = refl
fill-none event ended None (Some p) h = refl
fill-none event ended (Some b) (Some p) h =
    let l = h b refl in
    ap (λ n. Some (record { event = event; delay = n - event; frame = p.frame })) (same (ended + p.delay) (queued_at b) (omega (arith, l)))
  where
    same : (d m : ℕ) → m ≤ d → max d 0 ≡ max d m
    same d m l = omega arith

-- nor does it matter for a synchronous stream's bounds
pub obeys-none : (k : Stream) (before : Option Offer) (from : ℕ) (o : Offer) → 1 ≤ k.every → ((b : Offer) → before ≡ Some b → queued_at b ≤ queued_at o) → obeys k before from o ≡ obeys k None from o
obeys-none k None from o s h = refl
obeys-none k (Some b) from o s h =
    let later : is_later k (Some b) o ≡ true = ap (λ v. v || nat_le (b.event + k.period) o.event) (lt-true 0 k.every s) in
    ap (λ v. v && is_in_time k from o && is_of_length (Some k) (queue_step k.id o) && nat_le (queued_at b) (queued_at o)) later
    ∙ ap (λ v. true && is_in_time k from o && is_of_length (Some k) (queue_step k.id o) && v) (le-true (queued_at b) (queued_at o) (h b refl))

-- the offer before was queued by a step
pub before-offer : (steps : List Step) (a : Actor) → QueuesItsOffers steps a → (i : ℕ) → i ≤ length steps → (b : Offer) → queued_before a.stream.id steps i ≡ Some b →
    (j : ℕ) × (j < i) × (suc (count_to (is_queue a.stream.id) steps j) ≡ count_to (is_queue a.stream.id) steps i) × (next_answer steps j a ≡ Some b) × (step_at steps j ≡ queue_step a.stream.id b)
before-offer steps a h i l b e =
    let r = before-step a.stream.id steps i b l e in
    let t = r.2 in
    let p = h r.0 t.0 b.event b.frame (let k = r.1 in omega (arith, k, l)) t.1 in
    let same : Queue a.stream.id (queued_at p.0) (p.0).event (p.0).frame ≡ Queue a.stream.id t.0 b.event b.frame = sym p.2 ∙ t.1 in
    let m : queued_at p.0 ≡ t.0 = cc in
    let v : (p.0).event ≡ b.event = cc in
    let f : (p.0).frame ≡ b.frame = cc in
    let d : (p.0).delay ≡ b.delay = whole (p.0).event (p.0).delay t.0 b.event b.delay m v t.2 in
    let q : p.0 ≡ b = ap (λ n. record { event = n; delay = (p.0).delay; frame = (p.0).frame }) v ∙ ap (λ n. record { event = b.event; delay = n; frame = (p.0).frame }) d ∙ ap (λ n. record { event = b.event; delay = b.delay; frame = n }) f in
    (r.0, r.1, r.3, p.1 ∙ ap Some q, p.2 ∙ ap (queue_step a.stream.id) q)
  where
    whole : (event delay at event' delay' : ℕ) → event + delay ≡ at → event ≡ event' → delay' ≡ at - event' → delay ≡ delay'
    whole event delay at event' delay' m v d = omega arith

pub before-moment : (steps : List Step) (a : Actor) → QueuesItsOffers steps a → (b : Offer) → queued_before a.stream.id steps (length steps) ≡ Some b → (j : ℕ) × (j < length steps) × (at_of (step_at steps j) ≡ queued_at b)
before-moment steps a h b e = (let r = before-offer steps a h (length steps) (omega arith) b e in (r.0, r.1, ap at_of r.4))

-- where none was queued none is before
pub before-none : (k : ℕ) (xs : List Step) (i : ℕ) → i ≤ length xs → queued_before k xs i ≡ None → count_to (is_queue k) xs i ≡ 0
before-none k xs zero l h = count_to-zero (is_queue k) xs
before-none k xs (suc i) l h = go (step_at xs i) refl (before-none k xs i (omega arith)) h
  where
    go : (x : Step) → step_at xs i ≡ x → (queued_before k xs i ≡ None → count_to (is_queue k) xs i ≡ 0) → offer_or k x (queued_before k xs i) ≡ None → count_to (is_queue k) xs (suc i) ≡ 0
    go x e ih g = elim (bool_cases (is_queue k x)) [
      | inr f ↦ (let c = count_to-suc (is_queue k) xs i (omega arith) in let z = one-false (is_queue k (step_at xs i)) (ap (is_queue k) e ∙ f) in
          let n = ih (sym (offer-other k x (queued_before k xs i) f) ∙ g) in omega (arith, c, z, n))
      | inl t ↦ absurd (some-offer k x (queued_before k xs i) t g)
    ]
      where
        some-offer : (k : ℕ) (x : Step) (b : Option Offer) → is_queue k x ≡ true → offer_or k x b ≡ None → ⊥
        some-offer k (Queue id at event frame) b t g = (let z : Some (record { event = event; delay = at - event; frame = frame }) ≡ None = sym (ap (λ v. cond v (Some (record { event = event; delay = at - event; frame = frame })) b) t) ∙ g in absurd (cc))
        some-offer k (Start id at) b t g = absurd (cc)
        some-offer k (End id at) b t g = absurd (cc)
