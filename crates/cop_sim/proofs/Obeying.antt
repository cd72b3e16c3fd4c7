-- A seeded behaviour obeys.
use Rattle.std.proofs.Common.{◌≡◌, ℕ, ◌+◌, ◌-◌, ◌*◌, ◌%◌, ◌≤◌, ◌<◌, ◌^◌, inl, inr, List, ◌++◌, length, refl, sym, ◌∙◌, ap, subst, arith, suc, zero, true, false, max, nat_lt, nat_le, length-append, ◌==◌, ◌&&◌, ◌||◌, Option, Some, None}
use Rattle.std.specs.Prelude.{Contains}
use Rattle.std.specs.Option.{ForSome}
use Rattle.std.proofs.lemmas.Bool.{cases_lt}
use Rattle.std.proofs.lemmas.List.Elements.{All-contains}
use Rattle.rand_pcg.specs.Lcg.{Lcg}
use Rattle.cop_frame.specs.declared.rates.Rate.{Rate}
use Rattle.cop_frame.specs.Rate.{ticks_of}
use Rattle.cop_frame.proofs.LengthLemmas.{least_bits-least, least_bits-most}
use Rattle.cop_rta.specs.declared.streams.Stream.{Stream}
use Rattle.cop_rta.specs.Streams.{AreDistinct}
use Rattle.cop_rta.specs.Test.{sync_id}
use Rattle.cop_rta.proofs.QueueLemmas.{ticks_pos}
use Rattle.cop_bus.specs.declared.steps.Step.{Step}
use Rattle.cop_bus.specs.Run.{least_bits, worst_bits, IsKnown, HasLengthOf, IsObeying, IsQueuedInTime, IsSync}
use Rattle.cop_bus.specs.Trace.{is_queue, count_to, nth_that, at_of, moment_of, instances, now_of}
use Rattle.cop_bus.specs.Ends.{Ended, is_end, event_in, sync_number, HasEnded}
use Rattle.cop_bus.specs.Judge.{is_of_length}
use Rattle.cop_bus.proofs.Accepts as Accepts
use Rattle.cop_bus.proofs.AnchorLemmas.{ended_parts}
use Rattle.cop_bus.proofs.Demand.{and-true}
use Rattle.cop_bus.proofs.Grows.{step_at-more}
use Rattle.cop_bus.proofs.Hanging.{low_is_async}
use Rattle.cop_bus.proofs.Numbered.{kept_is}
use Rattle.cop_bus.proofs.StepLemmas.{moment-some, nth_that-some, count_to-le}
use Rattle.cop_bus.proofs.SyncEnds.{ended_is_sync}
use Rattle.cop_bus.proofs.WholeTrace.{clean-legal}
use Rattle.cop_bus.proofs.Work.{le-true, lt-true, eq-true, true-eq}
use Rattle.cop_sim.specs.declared.behaviours.Offer.{Offer}
use Rattle.cop_sim.specs.declared.cues.Cue.TheVariants.{Sync}
use Rattle.cop_sim.specs.Cues.{awaited_sync, cue_of, answer_in, filled, from_of, last_moment}
use Rattle.cop_sim.specs.Drawing.{word, rest, event_after, by_events, by_sync, drawn, after_drawn, drawn_at, fitting, words_of, seeded_actor}
use Rattle.cop_sim.specs.Play.{Actor, streams_of, queued_at, queue_step, queued_before, next_answer, is_later, is_in_time, is_not_before, obeys, QueuesItsOffers, IsPartialPlay, Disobeys}
use Rattle.cop_sim.proofs.Cued.{sync-stays, sync-before, before-offer, before-none, cue-sync, cue-async, answered-given}
use Rattle.cop_sim.proofs.DrawingLemmas.{fits, passes, rises-on, drawn-async, drawn-sync}
use Rattle.cop_sim.proofs.Kept.{next-is}

remainder : (a b : ℕ) → a % (b + 1) ≤ b
remainder a b = omega (arith)

some : {X : Type 0} (x y : X) → Some x ≡ Some y → x ≡ y
some x y e = cc

-- an offer has a length of the stream's frames
remainder-length : (w least most : ℕ) → least ≤ most → least + w % (most - least + 1) ≤ most
remainder-length w least most l = let r = remainder w (most - least) in omega (arith, l, r)

framed : (k : Stream) (w id at event : ℕ) (body : List ℕ) → is_of_length (Some k) (queue_step id (record { event = event; delay = at; frame = record { bits = least_bits k.bytes + w % (worst_bits k.bytes - least_bits k.bytes + 1); body = body; len = k.bytes } })) ≡ true
framed k w id at event body =
    let bits = least_bits k.bytes + w % (worst_bits k.bytes - least_bits k.bytes + 1) in
    let r = remainder-length w (least_bits k.bytes) (worst_bits k.bytes) (least_bits-most k.bytes) in
    and-true (nat_le (least_bits k.bytes) bits && nat_le bits (worst_bits k.bytes)) (k.bytes == k.bytes)
    (and-true (nat_le (least_bits k.bytes) bits) (nat_le bits (worst_bits k.bytes)) (le-true (least_bits k.bytes) bits (omega arith)) (le-true bits (worst_bits k.bytes) r))
    (eq-true k.bytes k.bytes refl)

-- the four tests together
obeying-by : (k : Stream) (before : Option Offer) (from : ℕ) (o : Offer) → is_later k before o ≡ true → is_in_time k from o ≡ true → is_of_length (Some k) (queue_step k.id o) ≡ true → is_not_before before o ≡ true → obeys k before from o ≡ true
obeying-by k before from o a b c d =
    and-true (is_later k before o && is_in_time k from o && is_of_length (Some k) (queue_step k.id o)) (is_not_before before o)
    (and-true (is_later k before o && is_in_time k from o) (is_of_length (Some k) (queue_step k.id o)) (and-true (is_later k before o) (is_in_time k from o) a b) c) d

in-time-by : (k : Stream) (from : ℕ) (o : Offer) → from ≤ queued_at o → queued_at o ≤ from + k.jitter → is_in_time k from o ≡ true
in-time-by k from o a b = and-true (nat_le from (queued_at o)) (nat_le (queued_at o) (from + k.jitter)) (le-true from (queued_at o) a) (le-true (queued_at o) (from + k.jitter) b)

-- ---- a stream that is not synchronous

abbrev IsWithin : Stream → Option Offer → Type 0
IsWithin k None = Unit {0}
IsWithin k (Some b) = b.delay ≤ k.jitter

-- a delay is at most the jitter, raised or not
within : (k : Stream) (before : Option Offer) (g : Lcg) → IsWithin k before → (by_events k before g).delay ≤ k.jitter
within k None g h = remainder (word (rest g)) k.jitter
within k (Some b) g h =
    let r = remainder (word (rest g)) k.jitter in
    go (event_after k (Some b) (word g)) (word (rest g) % (k.jitter + 1)) later r h
  where
    later : b.event ≤ event_after k (Some b) (word g)
    later = omega (arith)

    go : (event delay : ℕ) → b.event ≤ event → delay ≤ k.jitter → b.delay ≤ k.jitter → max delay (b.event + b.delay - event) ≤ k.jitter
    go event delay l d h = omega (arith, l, d, h)

above : (event delay q : ℕ) → q ≤ event + max delay (q - event)
above event delay q = omega arith

-- an instance after another obeys
module _ (k : Stream) (async : k.every ≡ 0) (before : Option Offer) (g : Lcg) (h : IsWithin k before) where
  abbrev o : Offer
  o = by_events k before g

  later : (before : Option Offer) → is_later k before (by_events k before g) ≡ true
  later None = refl
  later (Some b) = ap (λ e. nat_lt 0 e || nat_le (b.event + k.period) (event_after k (Some b) (word g))) async ∙ le-true (b.event + k.period) (event_after k (Some b) (word g)) (omega arith)

  not_before : (before : Option Offer) → is_not_before before (by_events k before g) ≡ true
  not_before None = refl
  not_before (Some b) = le-true (queued_at b) (queued_at (by_events k (Some b) g)) (above (event_after k (Some b) (word g)) (word (rest g) % (k.jitter + 1)) (queued_at b))

  obeying : obeys k before (drawn k before g).event (drawn k before g) ≡ true
  obeying = subst (λ (p : Offer). obeys k before p.event p ≡ true) (sym (drawn-async k before g async))
      (let w = within k before g h in
      obeying-by k before o.event o (later before) (in-time-by k o.event o (omega arith) (omega (arith, w))) (framed k (word (rest (rest g))) k.id o.delay o.event o.frame.body) (not_before before))

  delayed : (drawn k before g).delay ≤ k.jitter
  delayed = subst (λ (p : Offer). p.delay ≤ k.jitter) (sym (drawn-async k before g async)) (within k before g h)

-- the offer that fits is the instance
fitted : (o p : Offer) → fitting o ≡ Some p → o ≡ p
fitted o p e = elim (cases_lt (queued_at o) (2 ^ 64)) [
  | inl l ↦ some o p (sym (fits o l) ∙ e)
  | inr h ↦ (let n : None ≡ Some p = sym (passes o h) ∙ e in absurd (cc))
]

-- so does each of those that fit
obeys-at : (k : Stream) → k.every ≡ 0 → (before : Option Offer) (g : Lcg) (n : ℕ) (p : Offer) → IsWithin k before → fitting (drawn_at k before g (suc n)) ≡ Some p
    → (b : Offer) × (fitting (drawn_at k before g n) ≡ Some b) × (obeys k (Some b) p.event p ≡ true)
obeys-at k async before g zero p h e =
    let o = drawn k before g in
    let next = fitted (drawn k (Some o) (after_drawn k g)) p e in
    elim (cases_lt (queued_at o) (2 ^ 64)) [
      | inl l ↦ (o, fits o l, subst (λ (q : Offer). obeys k (Some o) q.event q ≡ true) next (obeying k async (Some o) (after_drawn k g) (delayed k async before g h)))
      | inr over ↦ (let more = rises-on k o (after_drawn k g) zero async in
          let n : None ≡ Some p = sym (passes (drawn_at k (Some o) (after_drawn k g) zero) (omega (arith, over, more))) ∙ e in absurd (cc))
    ]
obeys-at k async before g (suc n) p h e = obeys-at k async (Some (drawn k before g)) (after_drawn k g) n p (delayed k async before g h) e

-- ---- a synchronous one

-- each answer's delay is within the latency, and its frame is of the stream's length
answer-within : (k : Stream) → 1 ≤ k.every → (before : Option Offer) (g : Lcg) (n : ℕ) (p : Offer) → fitting (drawn_at k before g n) ≡ Some p →
    (p.delay ≤ k.jitter) × ((id at event : ℕ) → is_of_length (Some k) (queue_step id (record { event = event; delay = at; frame = p.frame })) ≡ true)
answer-within k s before g zero p e =
    let q = sym (drawn-sync k before g s) ∙ fitted (drawn k before g) p e in
    subst (λ (v : Offer). (v.delay ≤ k.jitter) × ((id at event : ℕ) → is_of_length (Some k) (queue_step id (record { event = event; delay = at; frame = v.frame })) ≡ true)) q
    (remainder (word g) k.jitter, λ id at event. framed k (word (rest g)) id at event (by_sync k g).frame.body)
answer-within k s before g (suc n) p e = answer-within k s (Some (drawn k before g)) (after_drawn k g) n p e

module _ (rate : Rate) (actors : List Actor) (distinct : AreDistinct (streams_of actors)) (until : ℕ) (steps : List Step) (play : IsPartialPlay (ticks_of rate) actors until steps) where
  abbrev tau : ℕ
  tau = ticks_of rate

  abbrev all : List Step
  all = steps ++ play.ahead

  abbrev end : ℕ
  end = now_of all

  -- a SYNC's event is not after the end of its transfer
  pub event-first : (a : ℕ) (e : Ended) → sync_number steps a ≡ Some e → e.event ≤ e.at
  event-first a e h =
      let there = sync-stays steps play.ahead a e h in
      let p = ended_parts (event_in (nth_that (is_queue sync_id) a all)) (moment_of (nth_that (is_end sync_id) a all)) e there in
      let ended : HasEnded all (length all) a e.event e.at = record { before = sync-before all a e there; event_is = p.0; ended_is = p.1 } in
      let clean = (clean-legal rate (streams_of actors) end all distinct).1 play.legal in
      let is : IsSync tau end (instances all) a e.event e.at = ended_is_sync tau (streams_of actors) end all (ticks_pos rate) (Accepts.obeys tau (streams_of actors) end all distinct clean) (length all) a e.event e.at ended in
      let k = kept_is (λ y. y.id == sync_id) (instances all) a is.sync is.here in
      let id = true-eq is.sync.id sync_id k.1 in
      let known = All-contains (IsKnown (streams_of actors)) (instances all) is.sync play.legal.legal.known k.0 in
      let joined = All-contains (λ y. ForSome y.start (λ s. y.queued < s + tau)) (instances all) is.sync play.legal.legal.joined k.0 is.start is.starts in
      let s = known.some_stream in
      let inside : Contains (streams_of actors) s.1 = (s.0, s.2, s.3) in
      let its-length = All-contains (λ k. k.id ≡ is.sync.id → HasLengthOf k is.sync) (streams_of actors) s.1 known.length inside s.4 in
      let obeying = All-contains (IsObeying tau end (instances all)) (streams_of actors) s.1 play.legal.obeying inside in
      let time = All-contains (λ y. y.id ≡ s.1.id → IsQueuedInTime tau end (instances all) s.1 y) (instances all) is.sync obeying.in_time k.0 (sym s.4) in
      let async = low_is_async s.1 (let i = s.4 in omega (arith, i, id)) in
      let own = (time.is_anchor.by_event async).1 in
      let after = time.after_anchor in
      let event = is.event_is in
      let ends = is.ends in
      let bits = its-length.not_shorter in
      let long = takes is.sync.bits tau (omega (arith, bits, least_bits-least s.1.bytes)) in
      omega (arith, own, after, event, ends, joined, long)
    where
      takes : (bits tau : ℕ) → 1 ≤ bits → tau ≤ bits * tau
      takes zero tau l = absurd (omega arith)
      takes (suc n) tau l = omega arith

  -- SYNCs end by their numbers
  ends-rise : (a b : ℕ) (e f : Ended) → a < b → sync_number steps a ≡ Some e → sync_number steps b ≡ Some f → e.at ≤ f.at
  ends-rise a b e f l h g =
      let p = (ended_parts (event_in (nth_that (is_queue sync_id) a steps)) (moment_of (nth_that (is_end sync_id) a steps)) e h).1 in
      let q = (ended_parts (event_in (nth_that (is_queue sync_id) b steps)) (moment_of (nth_that (is_end sync_id) b steps)) f g).1 in
      let x = moment-some (nth_that (is_end sync_id) a steps) e.at p in
      let y = moment-some (nth_that (is_end sync_id) b steps) f.at q in
      let i = nth_that-some (is_end sync_id) a steps x.0 x.1 in
      let j = nth_that-some (is_end sync_id) b steps y.0 y.1 in
      let m : i.0 < j.0 = elim (cases_lt i.0 j.0) [ inl v ↦ v | inr v ↦ (let c = count_to-le (is_end sync_id) steps j.0 i.0 v in let i4 = i.4 in let j4 = j.4 in absurd (omega (arith, c, i4, j4, l))) ] in
      let inside : j.0 < length all = (let w = length-append steps play.ahead in let n = j.1 in omega (arith, n)) in
      let si = ap at_of (step_at-more steps play.ahead i.0 i.1 ∙ i.2) ∙ x.2 in
      let sj = ap at_of (step_at-more steps play.ahead j.0 j.1 ∙ j.2) ∙ y.2 in
      elim (play.legal.ordered i.0 j.0 m inside) [
        | inl o ↦ omega (arith, o, si, sj)
        | inr o ↦ (let w = o.0 in omega (arith, w, si, sj))
      ]

  module _ (seed : ℕ) (k : Stream) (s : 1 ≤ k.every) (offers : QueuesItsOffers steps (seeded_actor seed k)) where
    abbrev a : Actor
    a = seeded_actor seed k

    abbrev number : ℕ → ℕ
    number i = count_to (is_queue k.id) steps i

    -- the answer for a SYNC that has ended
    answered : (i : ℕ) (o : Offer) → next_answer steps i a ≡ Some o →
        (e : Ended) × (sync_number steps (awaited_sync k (number i)) ≡ Some e) × (from_of (cue_of steps i k) o ≡ e.at)
        × ((p : Offer) × (a.offer (number i) ≡ Some p) × (o ≡ filled (queued_before k.id steps i) e.event e.at p))
    answered i o h =
        let before = queued_before k.id steps i in
        let c = cue-sync k steps i s (answered-given (cue_of steps i k) before (a.offer (number i)) o h) in
        let f = fill (c.0).event (c.0).at before (a.offer (number i)) o (sym (ap (λ u. answer_in u before (a.offer (number i))) c.2) ∙ h) in
        (c.0, c.1, ap (λ u. from_of u o) c.2, f)
      where
        fill : (event ended : ℕ) (before answer : Option Offer) (o : Offer) → answer_in (Sync event ended) before answer ≡ Some o → (p : Offer) × (answer ≡ Some p) × (o ≡ filled before event ended p)
        fill event ended before None o h = absurd (cc)
        fill event ended before (Some p) o h = (p, refl, some o (filled before event ended p) (sym h))

    -- it is queued within the latency, if the one before is
    queued-by : (event ended delay before jitter : ℕ) → event ≤ ended → delay ≤ jitter → before ≤ ended + jitter → event + (max (ended + delay) before - event) ≤ ended + jitter
    queued-by event ended delay before jitter a b c = omega arith

    before-bound : (i : ℕ) (e : Ended) → ((b : Offer) → queued_before k.id steps i ≡ Some b → queued_at b ≤ e.at + k.jitter) → last_moment (queued_before k.id steps i) ≤ e.at + k.jitter
    before-bound i e h = go (queued_before k.id steps i) refl
      where
        go : (o : Option Offer) → queued_before k.id steps i ≡ o → last_moment o ≤ e.at + k.jitter
        go None f = omega arith
        go (Some b) f = h b f

    step-bound : (c i : ℕ) → number i ≡ c → (o : Offer) → next_answer steps i a ≡ Some o → (e : Ended) → sync_number steps (awaited_sync k c) ≡ Some e → ((b : Offer) → queued_before k.id steps i ≡ Some b → queued_at b ≤ e.at + k.jitter) → queued_at o ≤ e.at + k.jitter
    step-bound c i n o h e t earlier =
        let w = answered i o h in
        let same : w.0 ≡ e = some w.0 e (sym w.1 ∙ ap (λ m. sync_number steps (awaited_sync k m)) n ∙ t) in
        let d = (answer-within k s None (words_of seed k) (number i) (w.3).0 (w.3).1).0 in
        let first = event-first (awaited_sync k c) e t in
        let f : o ≡ filled (queued_before k.id steps i) e.event e.at (w.3).0 = (w.3).2 ∙ ap (λ (v : Ended). filled (queued_before k.id steps i) v.event v.at (w.3).0) same in
        let m = before-bound i e earlier in
        subst (λ (v : Offer). queued_at v ≤ e.at + k.jitter) (sym f) (queued-by e.event e.at (w.3).0.delay (last_moment (queued_before k.id steps i)) k.jitter first d m)

    bound : (c i : ℕ) → i ≤ length steps → number i ≡ c → (o : Offer) → next_answer steps i a ≡ Some o → (e : Ended) → sync_number steps (awaited_sync k c) ≡ Some e → queued_at o ≤ e.at + k.jitter
    bound zero i l n o h e t = step-bound zero i n o h e t (λ b g. (let r = before-offer steps a offers i l b g in let m = r.2 in absurd (omega (arith, m, n))))
    bound (suc c) i l n o h e t = step-bound (suc c) i n o h e t (λ b g.
        (let r = before-offer steps a offers i l b g in
        let m = r.2 in
        let q : number r.0 ≡ c = omega (arith, m, n) in
        let w = answered r.0 b r.3 in
        let there : sync_number steps (awaited_sync k c) ≡ Some w.0 = ap (λ z. sync_number steps (awaited_sync k z)) (sym q) ∙ w.1 in
        let one = bound c r.0 (let v = r.1 in omega (arith, v, l)) q b r.3 w.0 there in
        let rise = ends-rise (awaited_sync k c) (awaited_sync k (suc c)) w.0 e (further c k.every s) there t in
        omega (arith, one, rise)))
      where
        further : (c e : ℕ) → 1 ≤ e → suc c * e - 1 < suc (suc c) * e - 1
        further c e l = omega arith

    -- so it obeys
    pub sync-obeys : (o : Offer) → next_answer steps (length steps) a ≡ Some o → obeys k (queued_before k.id steps (length steps)) (from_of (cue_of steps (length steps) k) o) o ≡ true
    sync-obeys o h =
        let w = answered (length steps) o h in
        let before = queued_before k.id steps (length steps) in
        let p = (w.3).0 in
        let frame = (answer-within k s None (words_of seed k) (number (length steps)) p (w.3).1).1 in
        let high = bound (number (length steps)) (length steps) (omega arith) refl o h w.0 w.1 in
        let f = filled before (w.0).event (w.0).at p in
        let low = subst (λ (v : Offer). (w.0).at ≤ queued_at v) (sym (w.3).2) (ended-low (w.0).event (w.0).at p.delay (last_moment before)) in
        let after = subst (λ (v : Offer). last_moment before ≤ queued_at v) (sym (w.3).2) (before-low (w.0).event ((w.0).at + p.delay) (last_moment before)) in
        ap (λ v. obeys k before v o) w.2
        ∙ obeying-by k before (w.0).at o (later before) (in-time-by k (w.0).at o low high)
        (subst (λ (v : Offer). is_of_length (Some k) (queue_step k.id v) ≡ true) (sym (w.3).2) (frame k.id f.delay f.event)) (not-before before after)
      where
        later : (before : Option Offer) → is_later k before o ≡ true
        later None = refl
        later (Some b) = ap (λ v. v || nat_le (b.event + k.period) o.event) (lt-true 0 k.every s)

        not-before : (before : Option Offer) → last_moment before ≤ queued_at o → is_not_before before o ≡ true
        not-before None l = refl
        not-before (Some b) l = le-true (queued_at b) (queued_at o) l

        ended-low : (event ended delay before : ℕ) → ended ≤ event + (max (ended + delay) before - event)
        ended-low event ended delay before = omega arith

        before-low : (event moment before : ℕ) → before ≤ event + (max moment before - event)
        before-low event moment before = omega arith

  -- and a stream that is not synchronous
  module _ (seed : ℕ) (k : Stream) (async : k.every ≡ 0) (offers : QueuesItsOffers steps (seeded_actor seed k)) where
    abbrev actor : Actor
    actor = seeded_actor seed k

    own : (i : ℕ) (o : Offer) → next_answer steps i actor ≡ Some o → actor.offer (count_to (is_queue k.id) steps i) ≡ Some o
    own i o h = sym (ap (λ u. answer_in u (queued_before k.id steps i) (actor.offer (count_to (is_queue k.id) steps i))) (cue-async k steps i async)) ∙ h

    pub async-obeys : (o : Offer) → next_answer steps (length steps) actor ≡ Some o → obeys k (queued_before k.id steps (length steps)) (from_of (cue_of steps (length steps) k) o) o ≡ true
    async-obeys o h = ap (λ u. obeys k (queued_before k.id steps (length steps)) (from_of u o) o) (cue-async k steps (length steps) async) ∙ go (queued_before k.id steps (length steps)) refl
      where
        go : (before : Option Offer) → queued_before k.id steps (length steps) ≡ before → obeys k before o.event o ≡ true
        go None f =
            let n = before-none k.id steps (length steps) (omega arith) f in
            let e = fitted (drawn k None (words_of seed k)) o (ap actor.offer (sym n) ∙ own (length steps) o h) in
            subst (λ (q : Offer). obeys k None q.event q ≡ true) e (obeying k async None (words_of seed k) tt)
        go (Some b) f =
            let r = before-offer steps actor offers (length steps) (omega arith) b f in
            let n = count_to (is_queue k.id) steps r.0 in
            let w = obeys-at k async None (words_of seed k) n o tt (ap actor.offer r.2 ∙ own (length steps) o h) in
            let same : w.0 ≡ b = some w.0 b (sym w.1 ∙ own r.0 b r.3) in
            subst (λ (q : Offer). obeys k (Some q) o.event o ≡ true) same w.2

pub never-disobeys : (rate : Rate) (actors : List Actor) (seed : ℕ) (k : Stream) (until n : ℕ) → AreDistinct (streams_of actors) → Disobeys (ticks_of rate) actors until (seeded_actor seed k) n → ⊥
never-disobeys rate actors seed k until n distinct d =
    let offers = All-contains (QueuesItsOffers d.steps) actors (seeded_actor seed k) d.partial.offers d.its in
    let h = (next-is until d.steps (length d.steps) (seeded_actor seed k) d.offer d.is_next).0 in
    let t = elim (cases_lt 0 k.every) as (λ _. obeys k (queued_before k.id d.steps (length d.steps)) (from_of (cue_of d.steps (length d.steps) k) d.offer) d.offer ≡ true) [
      | inl s ↦ sync-obeys rate actors distinct until d.steps d.partial seed k s offers d.offer h
      | inr z ↦ async-obeys rate actors distinct until d.steps d.partial seed k (omega arith) offers d.offer h
    ] in
    let c : true ≡ false = sym t ∙ d.breaks in absurd (cc)
