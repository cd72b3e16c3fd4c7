-- What an offer hangs on keeps the rules on its event and its queue moment: of a synchronous stream its SYNCs are as many numbers apart as it takes.
use Rattle.std.proofs.Common.{◌≡◌, ℕ, ◌+◌, ◌-◌, ◌*◌, ◌≤◌, ◌<◌, inl, inr, List, [], ◌∷◌, ◌++◌, length, refl, sym, ◌∙◌, ap, subst, arith, suc, zero, true, false, cond, ◌&&◌, ◌||◌, nat_le, nat_lt}
use Rattle.std.specs.Prelude.{Option, None, Some, is_some, ◌==◌}
use Rattle.std.proofs.lemmas.Bool.{cases_lt}
use Rattle.cop_rta.specs.declared.streams.Stream.{Stream}
use Rattle.cop_rta.specs.Test.{sync_id}
use Rattle.cop_bus.specs.declared.steps.Step.{Step}
use Rattle.cop_bus.specs.declared.steps.Content.{Content}
use Rattle.cop_bus.specs.declared.steps.Step.TheVariants.{Queue, Start, End}
use Rattle.cop_bus.specs.Run.{gap_of}
use Rattle.cop_bus.specs.Trace.{is_queue, count_to, nth_that, step_at, moment_of}
use Rattle.cop_bus.specs.Judge as Judge
use Rattle.cop_bus.specs.Judge.{stream_of, last_event, event_or, are_apart, is_period_later, is_queued_in_time, is_of_length}
use Rattle.cop_bus.specs.Growing.{KeepTheRules}
use Rattle.cop_bus.specs.Ends.{Ended, is_end, event_in, sync_number, anchor_if, or_next, sync_below, sync_anchor, anchor_of}
use Rattle.cop_bus.proofs.Demand.{and-left, and-right}
use Rattle.cop_bus.proofs.Work.{true-le, le-true, eq-true, true-eq}
use Rattle.cop_bus.proofs.Accepts.{some_stream, stream-found}
use Rattle.cop_bus.proofs.AnchorLemmas.{ended, own_anchor, ended_parts, below_is, below_finds, anchor_async, anchor_synced, gap-async, gap-synced}
use Rattle.cop_bus.proofs.Hanging.{low_is_async}
use Rattle.cop_bus.proofs.StepLemmas.{bool_cases, count_to-le, nth_that-some, queue_shape, one-false}
use Rattle.cop_bus.proofs.Verdict.{keeps}
use Rattle.cop_bus.proofs.Grows.{count_to-more, last_event-more}
use Rattle.cop_bus.proofs.Appended.{count_to-one}
use Rattle.cop_sim.specs.declared.behaviours.Offer.{Offer}
use Rattle.cop_sim.specs.Cues.{awaited_sync, cue_of, answer_in, from_of}
use Rattle.cop_sim.specs.Play.{Actor, queued_at, queue_step, queued_before, next_answer, QueuesItsOffers, is_later, is_in_time, is_not_before, obeys, obeys_after, event_of}
use Rattle.cop_sim.proofs.Cued.{EndQueued, nth-count, sync-stays, sync-there, sync-kept, last_event-is, before-step, cue-sync, cue-async, filled-event, answered-given}

-- the four tests of an offer that obeys
pub obeys-is : (k : Stream) (before : Option Offer) (from : ℕ) (o : Offer) → obeys k before from o ≡ true →
    (is_later k before o ≡ true) × (is_in_time k from o ≡ true) × (is_of_length (Some k) (queue_step k.id o) ≡ true) × (is_not_before before o ≡ true)
obeys-is k before from o h =
    let a = is_later k before o in
    let b = is_in_time k from o in
    let c = is_of_length (Some k) (queue_step k.id o) in
    let d = is_not_before before o in
    let abc = and-left (a && b && c) d h in
    let ab = and-left (a && b) c abc in
    (and-left a b ab, and-right a b ab, and-right (a && b) c abc, and-right (a && b && c) d h)

-- ---- anchors after other steps

abbrev pub AnchorsAgree : Stream → List Step → ℕ → List Step → ℕ → Type 0
AnchorsAgree k steps i steps' i' = (event : ℕ) → anchor_of k steps i event ≡ anchor_of k steps' i' event

below-same : (xs ys : List Step) (event n : ℕ) → ((a : ℕ) → a < n → sync_number xs a ≡ sync_number ys a) → sync_below xs event n ≡ sync_below ys event n
below-same xs ys event zero h = refl
below-same xs ys event (suc n) h =
    ap (λ o. or_next o (anchor_if event n (sync_number xs n))) (below-same xs ys event n (λ a l. h a (omega arith)))
    ∙ ap (λ o. or_next (sync_below ys event n) (anchor_if event n o)) (h n (omega arith))

anchor-by : (k : Stream) (xs ys : List Step) (i j event : ℕ) → sync_anchor xs i event ≡ sync_anchor ys j event → anchor_of k xs i event ≡ anchor_of k ys j event
anchor-by k xs ys i j event h = ap (λ a. cond (k.every == 0) (Some (own_anchor event)) a) h

-- with more steps behind
pub anchors-more : (k : Stream) (steps more : List Step) → EndQueued steps → AnchorsAgree k (steps ++ more) (length steps) steps (length steps)
anchors-more k steps more few event =
    let n = count_to-more (is_end sync_id) steps more (length steps) (omega arith) in
    anchor-by k (steps ++ more) steps (length steps) (length steps) event
    (ap (sync_below (steps ++ more) event) n
    ∙ below-same (steps ++ more) steps event (count_to (is_end sync_id) steps (length steps)) (λ a l. (let t = sync-there steps few a l in sync-stays steps more a t.0 t.1 ∙ sym t.1)))

-- after a step that is no end of SYNC's
pub anchors-kept : (k : Stream) (steps : List Step) (x : Step) → is_end sync_id x ≡ false → EndQueued steps → AnchorsAgree k (steps ++ x ∷ []) (length (steps ++ x ∷ [])) steps (length steps)
anchors-kept k steps x f few event =
    let c = count_to-one (is_end sync_id) steps x in
    let z = one-false (is_end sync_id x) f in
    let n : count_to (is_end sync_id) (steps ++ x ∷ []) (length (steps ++ x ∷ [])) ≡ count_to (is_end sync_id) steps (length steps) = omega (arith, c, z) in
    anchor-by k (steps ++ x ∷ []) steps (length (steps ++ x ∷ [])) (length steps) event
    (ap (sync_below (steps ++ x ∷ []) event) n ∙ below-same (steps ++ x ∷ []) steps event (count_to (is_end sync_id) steps (length steps)) (λ a l. sync-kept steps x f few a))

-- the tests of the rules on events and queue moments are the same where the anchors are
pub period-same : (s : Option Stream) (k : Stream) (v : Option ℕ) (o : Offer) (steps : List Step) (i : ℕ) (steps' : List Step) (i' : ℕ) → s ≡ Some k → AnchorsAgree k steps i steps' i' →
    is_period_later s v steps i (queue_step k.id o) ≡ is_period_later s v steps' i' (queue_step k.id o)
period-same s k v o steps i steps' i' e agree =
    ap (λ s. is_period_later s v steps i (queue_step k.id o)) e ∙ go v ∙ sym (ap (λ s. is_period_later s v steps' i' (queue_step k.id o)) e)
  where
    go : (v : Option ℕ) → is_period_later (Some k) v steps i (queue_step k.id o) ≡ is_period_later (Some k) v steps' i' (queue_step k.id o)
    go None = refl
    go (Some b) = ap (λ a. are_apart (gap_of k) a (anchor_of k steps i o.event)) (agree b) ∙ ap (are_apart (gap_of k) (anchor_of k steps' i' b)) (agree o.event)

pub time-same : (s : Option Stream) (k : Stream) (o : Offer) (steps : List Step) (i : ℕ) (steps' : List Step) (i' : ℕ) → s ≡ Some k → AnchorsAgree k steps i steps' i' →
    is_queued_in_time s steps i (queue_step k.id o) ≡ is_queued_in_time s steps' i' (queue_step k.id o)
time-same s k o steps i steps' i' e agree =
    ap (λ s. is_queued_in_time s steps i (queue_step k.id o)) e ∙ ap (λ a. Judge.is_in_time k.jitter a (queued_at o)) (agree o.event) ∙ sym (ap (λ s. is_queued_in_time s steps' i' (queue_step k.id o)) e)

same_ended : (a b : Ended) → Some a ≡ Some b → a ≡ b
same_ended a b e = cc

-- ---- SYNC's events rise

module _ (tau : ℕ) (streams : List Stream) (until : ℕ) (steps ahead : List Step) (fine : KeepTheRules tau streams until steps ahead) where
  abbrev all : List Step
  all = steps ++ ahead

  rule : (n at event : ℕ) (frame : Content) (b : ℕ) → n < length steps → step_at steps n ≡ Queue sync_id at event frame → last_event sync_id steps n ≡ Some b → b < event
  rule n at event frame b l e h =
      let k = keeps tau streams until all n (step_at steps n) (fine n l) in
      let s = some_stream (stream_of streams sync_id) (sym (ap (λ x. is_some (stream_of streams (Judge.id_of x))) e) ∙ k.known) in
      let i = (stream-found streams sync_id s.0 s.1).1 in
      let async = low_is_async s.0 (omega (arith, i)) in
      let last : last_event sync_id all n ≡ Some b = last_event-more sync_id steps ahead n (omega arith) ∙ h in
      let t : is_period_later (stream_of streams sync_id) (last_event sync_id all n) all n (Queue sync_id at event frame) ≡ true =
      sym (ap (λ x. is_period_later (stream_of streams (Judge.id_of x)) (last_event (Judge.id_of x) all n) all n x) e) ∙ k.period in
      let u : are_apart (gap_of s.0) (anchor_of s.0 all n b) (anchor_of s.0 all n event) ≡ true =
      sym (ap (λ o. is_period_later o (last_event sync_id all n) all n (Queue sync_id at event frame)) s.1 ∙ ap (λ v. is_period_later (Some s.0) v all n (Queue sync_id at event frame)) last) ∙ t in
      let v : are_apart s.0.period (Some (own_anchor b)) (Some (own_anchor event)) ≡ true =
      sym (ap (λ g. are_apart g (anchor_of s.0 all n b) (anchor_of s.0 all n event)) (gap-async s.0 async)
      ∙ ap (λ a. are_apart s.0.period a (anchor_of s.0 all n event)) (anchor_async s.0 all n b async) ∙ ap (are_apart s.0.period (Some (own_anchor b))) (anchor_async s.0 all n event async)) ∙ u in
      let w = true-le (b + s.0.period) event v in
      let least = s.0.period_least in omega (arith, w, least)

  -- the last event is that of a step before or a later one
  last-from : (j at event : ℕ) (frame : Content) → step_at steps j ≡ Queue sync_id at event frame → (i : ℕ) → j < i → i ≤ length steps → (b : ℕ) × (last_event sync_id steps i ≡ Some b) × (event ≤ b)
  last-from j at event frame e zero l m = absurd (omega arith)
  last-from j at event frame e (suc n) l m = elim (cases_lt j n) [
    | inr k ↦ (let q : j ≡ n = omega (arith, l, k) in
        (event, ap (λ x. event_or sync_id x (last_event sync_id steps n)) (ap (step_at steps) (sym q) ∙ e) ∙ ap (λ c. cond c (Some event) (last_event sync_id steps n)) (eq-true sync_id sync_id refl), omega arith))
    | inl k ↦ (let r = last-from j at event frame e n k (omega arith) in go (step_at steps n) refl r.0 r.1 r.2)
  ]
    where
      go : (x : Step) → step_at steps n ≡ x → (b : ℕ) → last_event sync_id steps n ≡ Some b → event ≤ b → (c : ℕ) × (event_or sync_id x (last_event sync_id steps n) ≡ Some c) × (event ≤ c)
      go (Queue id at' event' frame') f b g low = elim (bool_cases (id == sync_id)) [
        | inr n' ↦ (b, ap (λ c. cond c (Some event') (last_event sync_id steps n)) n' ∙ g, low)
        | inl t ↦ (let r = rule n at' event' frame' b (omega arith) (f ∙ ap (λ i. Queue i at' event' frame') (true-eq id sync_id t)) g in
            (event', ap (λ c. cond c (Some event') (last_event sync_id steps n)) t, omega (arith, r, low)))
      ]
      go (Start id at') f b g low = (b, g, low)
      go (End id at') f b g low = (b, g, low)

  rises : (i j : ℕ) (a b event event' : ℕ) (frame frame' : Content) → i < j → j < length steps → step_at steps i ≡ Queue sync_id a event frame → step_at steps j ≡ Queue sync_id b event' frame' → event < event'
  rises i j a b event event' frame frame' l m e f =
      let r = last-from i a event frame e j l (omega arith) in
      let s = rule j b event' frame' r.0 m f r.1 in
      let t = r.2 in omega (arith, s, t)

  -- so SYNCs are numbered by their events
  one-way : (a b : ℕ) (x y : Step) → a < b → nth_that (is_queue sync_id) a steps ≡ Some x → nth_that (is_queue sync_id) b steps ≡ Some y → (event : ℕ) → event_in (Some x) ≡ Some event → event_in (Some y) ≡ Some event → ⊥
  one-way a b x y l e f event g h =
      let p = nth_that-some (is_queue sync_id) a steps x e in
      let q = nth_that-some (is_queue sync_id) b steps y f in
      let s = queue_shape sync_id x p.3 in
      let t = queue_shape sync_id y q.3 in
      let m : p.0 < q.0 = elim (cases_lt p.0 q.0) [ inl v ↦ v | inr v ↦ (let c = count_to-le (is_queue sync_id) steps q.0 p.0 v in let p4 = p.4 in let q4 = q.4 in absurd (omega (arith, c, p4, q4, l))) ] in
      let r = rises p.0 q.0 s.0 t.0 s.1 t.1 s.2 t.2 m q.1 (p.2 ∙ s.3) (q.2 ∙ t.3) in
      let u : Some s.1 ≡ Some event = sym (ap (λ z. event_in (Some z)) s.3) ∙ g in
      let w : Some t.1 ≡ Some event = sym (ap (λ z. event_in (Some z)) t.3) ∙ h in
      let u1 : s.1 ≡ event = cc in
      let w1 : t.1 ≡ event = cc in
      absurd (omega (arith, r, u1, w1))

  queue-of : (o : Option Step) (event : ℕ) → event_in o ≡ Some event → (x : Step) × (o ≡ Some x)
  queue-of None event h = absurd (cc)
  queue-of (Some x) event h = (x, refl)

  pub one-event : (a b : ℕ) (x y : Ended) → sync_number steps a ≡ Some x → sync_number steps b ≡ Some y → x.event ≡ y.event → a ≡ b
  one-event a b x y e f same =
      let p = (ended_parts (event_in (nth_that (is_queue sync_id) a steps)) (moment_of (nth_that (is_end sync_id) a steps)) x e).0 in
      let q = (ended_parts (event_in (nth_that (is_queue sync_id) b steps)) (moment_of (nth_that (is_end sync_id) b steps)) y f).0 in
      let v = queue-of (nth_that (is_queue sync_id) a steps) x.event p in
      let w = queue-of (nth_that (is_queue sync_id) b steps) y.event q in
      let g : event_in (Some v.0) ≡ Some x.event = sym (ap event_in v.1) ∙ p in
      let h : event_in (Some w.0) ≡ Some x.event = sym (ap event_in w.1) ∙ q ∙ ap Some (sym same) in
      elim (cases_lt a b) [
        | inl l ↦ absurd (one-way a b v.0 w.0 l v.1 w.1 x.event g h)
        | inr l ↦ elim (cases_lt b a) [
          | inl m ↦ absurd (one-way b a w.0 v.0 m w.1 v.1 x.event h g)
          | inr m ↦ omega (arith, l, m)
        ]
      ]

  -- a SYNC that has ended is what its event hangs on
  pub mark-of : (a : ℕ) (e : Ended) → sync_number steps a ≡ Some e → sync_anchor steps (length steps) e.event ≡ Some (record { mark = a; from = e.at })
  mark-of a e h =
      let n = count_to (is_end sync_id) steps (length steps) in
      let t = (ended_parts (event_in (nth_that (is_queue sync_id) a steps)) (moment_of (nth_that (is_end sync_id) a steps)) e h).1 in
      let y = end-of (nth_that (is_end sync_id) a steps) e.at t in
      let f = below_finds steps e.event e.at a n (nth-count (is_end sync_id) steps a y.0 y.1) h in
      let g = below_is steps e.event n f.0 f.1 in
      let m = one-event f.0.mark a (ended e.event f.0.from) e g.1 h refl in
      let r = same_ended (ended e.event f.0.from) e (sym g.1 ∙ ap (sync_number steps) m ∙ h) in
      f.1 ∙ ap (λ k. Some (record { mark = k; from = f.0.from })) m ∙ ap (λ k. Some (record { mark = a; from = k })) (ap (λ (v : Ended). v.at) r)
    where
      end-of : (o : Option Step) (at : ℕ) → moment_of o ≡ Some at → (x : Step) × (o ≡ Some x)
      end-of None at h = absurd (cc)
      end-of (Some x) at h = (x, refl)

  -- ---- an offer that obeys

  module _ (few : EndQueued steps) (a : Actor) (offers : QueuesItsOffers steps a) where
    abbrev k : Stream
    k = a.stream

    abbrev n : ℕ
    n = length steps

    -- of a stream that is not synchronous
    module _ (async : k.every ≡ 0) where
      period-of : (before : Option Offer) (o : Offer) → is_later k before o ≡ true → is_period_later (Some k) (event_of before) steps n (queue_step k.id o) ≡ true
      period-of None o h = refl
      period-of (Some b) o h =
          ap (λ g. are_apart g (anchor_of k steps n b.event) (anchor_of k steps n o.event)) (gap-async k async)
          ∙ ap (λ a. are_apart k.period a (anchor_of k steps n o.event)) (anchor_async k steps n b.event async) ∙ ap (are_apart k.period (Some (own_anchor b.event))) (anchor_async k steps n o.event async)
          ∙ (sym (ap (λ e. nat_lt 0 e || nat_le (b.event + k.period) o.event) async) ∙ h)

      time-of : (o : Offer) → is_in_time k o.event o ≡ true → is_queued_in_time (Some k) steps n (queue_step k.id o) ≡ true
      time-of o h = ap (λ a. Judge.is_in_time k.jitter a (queued_at o)) (anchor_async k steps n o.event async) ∙ h

    -- of a synchronous one
    module _ (s : 1 ≤ k.every) where
      -- an answer hangs on the SYNC that it waited for
      anchored : (i : ℕ) (o : Offer) → next_answer steps i a ≡ Some o →
          (from : ℕ) × (anchor_of k steps n o.event ≡ Some (record { mark = awaited_sync k (count_to (is_queue k.id) steps i); from = from })) × (from_of (cue_of steps i k) o ≡ from)
      anchored i o h =
          let c = cue-sync k steps i s (answered-given (cue_of steps i k) (queued_before k.id steps i) (a.offer (count_to (is_queue k.id) steps i)) o h) in
          let m = awaited_sync k (count_to (is_queue k.id) steps i) in
          let e = filled-event (c.0).event (c.0).at (queued_before k.id steps i) (a.offer (count_to (is_queue k.id) steps i)) o
          (sym (ap (λ v. answer_in v (queued_before k.id steps i) (a.offer (count_to (is_queue k.id) steps i))) c.2) ∙ h) in
          ((c.0).at, anchor_synced k steps n o.event s ∙ ap (sync_anchor steps n) e ∙ mark-of m c.0 c.1, ap (λ v. from_of v o) c.2)

      period-sync : (before : Option Offer) (o : Offer) → queued_before k.id steps n ≡ before → next_answer steps n a ≡ Some o → is_period_later (Some k) (event_of before) steps n (queue_step k.id o) ≡ true
      period-sync None o f h = refl
      period-sync (Some b) o f h =
          let r = before-step k.id steps n b (omega arith) f in
          let t = r.2 in
          let p = offers r.0 t.0 b.event b.frame r.1 t.1 in
          let same : queue_step k.id p.0 ≡ Queue k.id t.0 b.event b.frame = sym p.2 ∙ t.1 in
          let e : p.0.event ≡ b.event = cc in
          let d = anchored r.0 p.0 p.1 in
          let g = anchored n o h in
          let m = r.3 in
          let apart : awaited_sync k (count_to (is_queue k.id) steps r.0) + k.every ≤ awaited_sync k (count_to (is_queue k.id) steps n) =
          subst (λ c. awaited_sync k (count_to (is_queue k.id) steps r.0) + k.every ≤ awaited_sync k c) m (further (count_to (is_queue k.id) steps r.0) k.every s) in
          ap (λ g. are_apart g (anchor_of k steps n b.event) (anchor_of k steps n o.event)) (gap-synced k s)
          ∙ ap (λ v. are_apart k.every (anchor_of k steps n v) (anchor_of k steps n o.event)) (sym e)
          ∙ ap (λ a. are_apart k.every a (anchor_of k steps n o.event)) d.1 ∙ ap (are_apart k.every (Some (record { mark = awaited_sync k (count_to (is_queue k.id) steps r.0); from = d.0 }))) g.1
          ∙ le-true (awaited_sync k (count_to (is_queue k.id) steps r.0) + k.every) (awaited_sync k (count_to (is_queue k.id) steps n)) apart
        where
          further : (c e : ℕ) → 1 ≤ e → suc c * e - 1 + e ≤ suc (suc c) * e - 1
          further c e l = omega arith

      time-sync : (o : Offer) → next_answer steps n a ≡ Some o → is_in_time k (from_of (cue_of steps n k) o) o ≡ true → is_queued_in_time (Some k) steps n (queue_step k.id o) ≡ true
      time-sync o h w =
          let g = anchored n o h in
          ap (λ a. Judge.is_in_time k.jitter a (queued_at o)) g.1 ∙ sym (ap (λ f. is_in_time k f o) g.2) ∙ w

    pub hangs : (o : Offer) → next_answer steps n a ≡ Some o → obeys_after steps n k o ≡ true →
        (is_period_later (Some k) (last_event k.id steps n) steps n (queue_step k.id o) ≡ true) × (is_queued_in_time (Some k) steps n (queue_step k.id o) ≡ true)
    hangs o h w =
        let t = obeys-is k (queued_before k.id steps n) (from_of (cue_of steps n k) o) o w in
        let l = ap (λ v. is_period_later (Some k) v steps n (queue_step k.id o)) (last_event-is k.id steps n) in
        elim (cases_lt 0 k.every) [
          | inl s ↦ (l ∙ period-sync s (queued_before k.id steps n) o refl h, time-sync s o h t.1)
          | inr z ↦ (let async : k.every ≡ 0 = omega arith in
              let own : is_in_time k o.event o ≡ true = sym (ap (λ v. is_in_time k (from_of v o) o) (cue-async k steps n async)) ∙ t.1 in
              (l ∙ period-of async (queued_before k.id steps n) o t.0, time-of async o own))
        ]
