-- An offer is queued, and what is at hand after it.
use Rattle.std.proofs.Common.{◌≡◌, ◌≢◌, ℕ, zero, ◌+◌, ◌-◌, ◌≤◌, ◌<◌, ◌^◌, ◌⊎◌, inl, inr, List, [], ◌∷◌, ◌++◌, length, get_or, slice_get, slice_set, Option, Some, None, Contains, Bool, true, false, cond, not, nat_le, refl, sym, ap, ◌∙◌, subst, arith, suc}
use Rattle.std.specs.Option.{ForSome, option_and_then}
use Rattle.std.proofs.lemmas.Bool.{cases_eq}
use Rattle.std.proofs.lemmas.List.{length-set, get_or-set_same, get_or-set_other}
use Rattle.cop_frame.specs.Rate.{ticks_of}
use Rattle.cop_rta.specs.declared.streams.Stream.{Stream}
use Rattle.cop_bus.specs.declared.steps.Step.{Step}
use Rattle.cop_bus.specs.Trace.{is_queue, running, now_of, at_of, step_at}
use Rattle.cop_bus.specs.Judge.{stream_of, any_waits, is_not_idle}
use Rattle.cop_bus.specs.Rings.{RingValue, any_in}
use Rattle.cop_bus.proofs.Work.{eq-true, le-true}
use Rattle.cop_bus.proofs.StepLemmas.{bool_cases}
use Rattle.cop_bus.proofs.Found.{or-left, or-right}
use Rattle.cop_bus.proofs.Appended.{now-one}
use Rattle.cop_plan.specs.Values.{PlanValue}
use Rattle.cop_sim.specs.declared.behaviours.Offer.{Offer}
use Rattle.cop_sim.specs.declared.due.Due.{Due}
use Rattle.cop_sim.specs.Play.{Actor, actors_of, streams_of, queued_at, queue_step, by_end, next_offer, queued_before, obeys, obeys_after}
use Rattle.cop_sim.specs.declared.cues.Cue.{Cue}
use Rattle.cop_sim.specs.Cues.{cue_by, cue_of, answer_in, from_of}
use Rattle.cop_sim.specs.Syncs.{SyncsValue, some_synchronous, AreNoted, with_event, noted_cue}
use Rattle.cop_sim.specs.Going.{Goes, queued_ahead}
use Rattle.cop_sim.specs.Seats.{next_at, answer_of, asks, IsCued, IsDueTo}
use Rattle.cop_sim.specs.Stages.{AtHand, queues, starts, IsHeld, IsSeat, flipped, IsAwaited, IsAt, IsQueued}
use Rattle.cop_sim.proofs.Cued.{before-own, cue-at}
use Rattle.cop_sim.proofs.Noted.{noted-queue, noted-cue-is}
use Rattle.cop_sim.proofs.Kept.{count-kept, count-raised, next-is, offered-given}
use Rattle.cop_sim.proofs.Going.{FindsTheSame, running-one}
use Rattle.cop_sim.proofs.Queued as Queued
use Rattle.cop_sim.proofs.Places as Places
use Rattle.cop_bus.proofs.AtPlace.{set-here, set-other, some-one, contained}
use Rattle.cop_sim.proofs.Ending.{seat-other}

-- the bus is not idle up to a moment that is not after the last step where something waits and nothing runs
pub busy-by : (streams : List Stream) (steps : List Step) (r : Option (ℕ × ℕ)) (m : ℕ) → (r ≡ None → any_waits steps (length steps) streams ≡ true → m ≤ now_of steps) → is_not_idle streams steps (length steps) r m ≡ true
busy-by streams steps r m h = go (length steps) refl r h
  where
    go : (n : ℕ) → n ≡ length steps → (r : Option (ℕ × ℕ)) → (r ≡ None → any_waits steps n streams ≡ true → m ≤ now_of steps) → is_not_idle streams steps n r m ≡ true
    go zero e r h = refl
    go (suc n) e (Some r) h = refl
    go (suc n) e None h = elim (bool_cases (any_waits steps (suc n) streams)) [
      | inr f ↦ or-right (nat_le m (at_of (step_at steps n))) (not (any_waits steps (suc n) streams)) (ap not f)
      | inl t ↦ (let l : length steps - 1 ≡ n = omega arith in
          or-left (nat_le m (at_of (step_at steps n))) _ (le-true m (at_of (step_at steps n)) (subst (λ k. m ≤ at_of (step_at steps k)) l (h refl t))))
    ]

module _ {B : Type 0} (offer : B → ℕ → Option Offer) (agrees : B → ℕ → ℕ → Bool) (plan : PlanValue) (until : ℕ) (firsts bs : List B) (h : AtHand) (steps : List Step) (at : IsAt offer agrees plan until firsts bs h steps)
    (d : Due) (first : IsDueTo plan.streams h.next (length h.next) d) (before : ForSome h.running (λ r. queued_at d.offer < r.0)) (idle : h.running ≡ None → any_in h.rings ≡ true → queued_at d.offer ≤ h.now)
    (a : Actor) (ea : slice_get (actors_of offer agrees plan.streams firsts) d.place ≡ Some a) where
  abbrev actors : List Actor
  actors = actors_of offer agrees plan.streams firsts

  abbrev tau : ℕ
  tau = ticks_of plan.rate

  abbrev x : Step
  x = queue_step a.stream.id d.offer

  there : (b : Actor) → Contains actors b → stream_of (streams_of actors) b.stream.id ≡ Some b.stream
  there = Places.there offer agrees plan until firsts bs h steps at

  same : (b c : Actor) → Contains actors b → Contains actors c → b.stream.id ≡ c.stream.id → b ≡ c
  same = Places.same offer agrees plan until firsts bs h steps at

  c : Contains actors a
  c = contained actors d.place a ea

  pub is-next : next_offer until steps (length steps) a ≡ Some d.offer
  is-next = sym (Places.next-is-offer offer agrees plan until firsts bs h steps at d.place a ea) ∙ first.here

  pub by-until : queued_at d.offer ≤ until
  by-until = (next-is until steps (length steps) a d.offer is-next).1

  abbrev pub seat : (b : B) × (r : RingValue) × (slice_get bs d.place ≡ Some b) × (slice_get h.rings d.place ≡ Some r) × IsSeat offer agrees until steps a b (next_at h.next d.place) r (get_or h.queued d.place 0)
  seat = Places.seat-of offer agrees plan until firsts bs h steps at d.place a ea

  obeying : obeys_after steps (length steps) a.stream d.offer ≡ true
  obeying = seat.4.obeying d.offer first.here

  least : (b : Actor) → Contains actors b → (p : Offer) → next_offer until steps (length steps) b ≡ Some p → (queued_at d.offer < queued_at p) ⊎ ((queued_at d.offer ≡ queued_at p) × (a.stream.id ≤ b.stream.id))
  least = Places.least offer agrees plan until firsts bs h steps at d first a ea

  before-end : (r : ℕ × ℕ) → running tau (steps ++ at.ahead) (length steps) ≡ Some r → queued_at d.offer < r.1
  before-end r q = before (r.1, r.0) (at.runs ∙ ap flipped q)

  not-idle : is_not_idle (streams_of actors) steps (length steps) (running tau (steps ++ at.ahead) (length steps)) (queued_at d.offer) ≡ true
  not-idle = busy-by (streams_of actors) steps (running tau (steps ++ at.ahead) (length steps)) (queued_at d.offer)
      (λ e w. subst (λ n. queued_at d.offer ≤ n) at.now_is (idle (at.runs ∙ ap flipped e) (Places.any-same offer agrees plan until firsts bs h steps at ∙ w)))

  -- the step is not that of the joiner that is awaited
  pub apart : h.joined ≢ Some d.place → (y : Step) → at.ahead ≡ y ∷ [] → is_queue a.stream.id y ≡ false
  apart n y e = go h.joined refl at.awaited
    where
      go : (j : Option ℕ) → h.joined ≡ j → IsAwaited actors h.next steps at.ahead j → is_queue a.stream.id y ≡ false
      go None q w = (let z : [] ≡ y ∷ [] = sym w ∙ e in absurd (cc))
      go (Some i) q w =
          let f = Places.apart offer agrees plan until firsts bs h steps at i d.place w.0 a w.1 ea (λ g. n (q ∙ ap Some (sym g))) in
          let z : queue_step (w.0).stream.id (w.3).0 ∷ [] ≡ y ∷ [] = sym (w.3).2 ∙ e in
          let v : queue_step (w.0).stream.id (w.3).0 ≡ y = cc in
          subst (λ s. is_queue a.stream.id s ≡ false) v f

  module _ (n : h.joined ≢ Some d.place) where
    pub goes-behind : Goes tau actors until (steps ++ x ∷ []) at.ahead
    goes-behind = Queued.queued_behind tau actors until there same steps at.ahead at.goes a c d.offer is-next obeying least before-end not-idle (apart n)

    pub runs-behind : running tau ((steps ++ x ∷ []) ++ at.ahead) (length (steps ++ x ∷ [])) ≡ running tau (steps ++ at.ahead) (length steps)
    runs-behind = running-one tau (streams_of actors) until steps at.ahead at.ahead x (Queued.between tau actors until there same steps at.ahead at.goes a c d.offer is-next obeying least before-end not-idle (apart n)) at.goes.fine

    -- no more were sent than are queued
    pub sent-few : starts a.stream.id steps ≤ queues a.stream.id steps
    sent-few = go at.ahead refl
      where
        go : (ahead : List Step) → at.ahead ≡ ahead → starts a.stream.id steps ≤ queues a.stream.id steps
        go ahead e = elim at.goes.sent [
          | inl q ↦ (let s = subst (λ t. starts a.stream.id steps ≤ queues a.stream.id steps + queued_ahead a.stream.id t) q (at.goes.started a.stream.id) in omega (arith, s))
          | inr w ↦ (let y = queue_step (w.0).stream.id (w.3).0 in
              let s = subst (λ t. starts a.stream.id steps ≤ queues a.stream.id steps + queued_ahead a.stream.id t) (w.3).2 (at.goes.started a.stream.id) in
              let z = count-kept (is_queue a.stream.id) [] y (apart n y (w.3).2) in omega (arith, s, z))
        ]

  module _ (e : at.ahead ≡ x ∷ []) where
    pub goes-joined : Goes tau actors until (steps ++ x ∷ []) []
    goes-joined = Queued.queued_joiner tau actors until there same steps at.ahead at.goes a c d.offer is-next obeying least before-end e

    pub runs-joined : running tau ((steps ++ x ∷ []) ++ []) (length (steps ++ x ∷ [])) ≡ running tau (steps ++ at.ahead) (length steps)
    runs-joined = running-one tau (streams_of actors) until steps at.ahead [] x (subst (λ t. FindsTheSame steps t (x ∷ [])) (sym e) (λ i m id l s v g. g)) at.goes.fine

  -- ---- the stage after it

  module _ (h' : AtHand) (cs : List B) (q : IsQueued offer agrees until plan.streams d h h' bs cs)
      (again : (o : Offer) (k : Stream) → next_at h'.next d.place ≡ Some o → slice_get plan.streams d.place ≡ Some k → obeys k (Some d.offer) (from_of (noted_cue h'.syncs k (get_or h'.queued d.place 0)) o) o ≡ true)
      (room : get_or h.queued d.place 0 < 2 ^ 64 - 1) where
    there-is-k : slice_get plan.streams d.place ≡ Some a.stream
    there-is-k = Places.stream-of offer agrees plan until firsts bs h steps at d.place a ea

    -- what its next answer waits for
    abbrev pub cue : Cue
    cue = noted_cue h'.syncs a.stream (get_or h'.queued d.place 0)

    abbrev pub answer : Option Offer
    answer = answer_of offer until cue (Some d.offer) seat.0

    abbrev asked : (v : B) × (cs ≡ slice_set bs d.place v) × IsCued offer agrees cue seat.0 v × (h'.next ≡ slice_set h.next d.place answer)
    asked = q.asked a.stream seat.0 there-is-k seat.2

    counted : h'.queued ≡ slice_set h.queued d.place (suc (get_or h.queued d.place 0))
    counted = q.queued room

    raised : queues a.stream.id (steps ++ x ∷ []) ≡ suc (queues a.stream.id steps)
    raised = count-raised (is_queue a.stream.id) steps x (eq-true a.stream.id a.stream.id refl)

    low : d.place < length plan.streams
    low = Places.within offer agrees plan until firsts bs h steps at d.place a ea

    next-here : next_at h'.next d.place ≡ answer
    next-here = ap (λ (xs : List (Option Offer)). next_at xs d.place) asked.3 ∙ get_or-set_same h.next d.place answer None (let n = at.sized.next in omega (arith, low, n))

    count-now : get_or h'.queued d.place 0 ≡ queues a.stream.id (steps ++ x ∷ [])
    count-now = ap (λ (xs : List ℕ). get_or xs d.place 0) counted ∙ get_or-set_same h.queued d.place (suc (get_or h.queued d.place 0)) 0 (let n = at.sized.queued in omega (arith, low, n)) ∙ ap suc seat.4.count ∙ sym raised

    noted-now : AreNoted (steps ++ x ∷ []) h'.syncs
    noted-now =
        let its = sym first.its ∙ Places.id-of offer agrees plan until firsts bs h steps at d.place a ea in
        subst (AreNoted (steps ++ x ∷ [])) (sym (q.syncs ∙ ap (λ n. with_event h.syncs n d.offer.event) its)) (noted-queue steps h.syncs a.stream.id (queued_at d.offer) d.offer.event d.offer.frame at.noted)

    synchronous-now : h'.syncs.synchronous ≡ some_synchronous plan.streams
    synchronous-now = ap (λ (v : SyncsValue). v.synchronous) q.syncs ∙ at.synchronous

    cue-now : cue ≡ cue_of (steps ++ x ∷ []) (length (steps ++ x ∷ [])) a.stream
    cue-now = noted-cue-is (steps ++ x ∷ []) h'.syncs plan.streams d.place a.stream (get_or h'.queued d.place 0) noted-now synchronous-now there-is-k ∙ ap (cue_by (steps ++ x ∷ []) a.stream) count-now ∙ sym (cue-at a.stream (steps ++ x ∷ []))

    -- it was asked for the offer that is queued
    given : asks (cue_of steps (length steps) a.stream) ≡ 1
    given = ap (λ b. cond b 1 0) (offered-given until steps (length steps) a d.offer is-next)

    pub answer-next : answer ≡ next_offer until (steps ++ x ∷ []) (length (steps ++ x ∷ [])) a
    answer-next = ap (option_and_then (by_end until))
        (ap (answer_in cue (Some d.offer)) (seat.4.rest 0 ∙ ap a.offer (let g = given in let e : queues a.stream.id steps + (asks (cue_of steps (length steps) a.stream) + 0) ≡ queues a.stream.id (steps ++ x ∷ []) = omega (arith, raised, g) in e))
        ∙ ap (λ b. answer_in cue b (a.offer (queues a.stream.id (steps ++ x ∷ [])))) (sym (before-own a.stream.id steps d.offer))
        ∙ ap (λ c. answer_in c (queued_before a.stream.id (steps ++ x ∷ []) (length (steps ++ x ∷ []))) (a.offer (queues a.stream.id (steps ++ x ∷ [])))) cue-now)

    module _ (ahead' : List Step) (goes' : Goes tau actors until (steps ++ x ∷ []) ahead') (runs' : running tau ((steps ++ x ∷ []) ++ ahead') (length (steps ++ x ∷ [])) ≡ running tau (steps ++ at.ahead) (length steps))
        (rp : RingValue) (here : slice_get h'.rings d.place ≡ Some rp) (others : (i : ℕ) → i ≢ d.place → slice_get h'.rings i ≡ slice_get h.rings i) (many : length h'.rings ≡ length plan.streams)
        (held : IsHeld until (steps ++ x ∷ []) a answer rp) (most : rp.most ≡ seat.1.most) (awaited' : IsAwaited actors h'.next (steps ++ x ∷ []) ahead' h'.joined) where
      own : IsSeat offer agrees until (steps ++ x ∷ []) a asked.0 (next_at h'.next d.place) rp (get_or h'.queued d.place 0)
      own = record {
        held = subst (λ (o : Option Offer). IsHeld until (steps ++ x ∷ []) a o rp) (sym next-here) held;
        most = most ∙ seat.4.most;
        count = count-now;
        rest = λ j. asked.2.rest j ∙ seat.4.rest (asks cue + j)
            ∙ ap a.offer (let g = given in let c = ap asks cue-now in
            let e : queues a.stream.id steps + (asks (cue_of steps (length steps) a.stream) + (asks cue + j)) ≡ queues a.stream.id (steps ++ x ∷ []) + (asks (cue_of (steps ++ x ∷ []) (length (steps ++ x ∷ [])) a.stream) + j) = omega (arith, raised, g, c) in e);
        same = λ z u. asked.2.same z u ∙ seat.4.same z u;
        obeying = λ o e. ap (λ b. obeys a.stream b (from_of (cue_of (steps ++ x ∷ []) (length (steps ++ x ∷ [])) a.stream) o) o) (before-own a.stream.id steps d.offer)
            ∙ ap (λ c. obeys a.stream (Some d.offer) (from_of c o) o) (sym cue-now) ∙ again o a.stream e there-is-k;
      }

      seats' : (i : ℕ) (b : Actor) (v : B) (r : RingValue) → slice_get actors i ≡ Some b → slice_get cs i ≡ Some v → slice_get h'.rings i ≡ Some r →
          IsSeat offer agrees until (steps ++ x ∷ []) b v (next_at h'.next i) r (get_or h'.queued i 0)
      seats' i b v r e f g = go (cases_eq i d.place)
        where
          go : (i ≡ d.place) ⊎ (i ≡ d.place → ⊥) → IsSeat offer agrees until (steps ++ x ∷ []) b v (next_at h'.next i) r (get_or h'.queued i 0)
          go (inl p) =
              let eb : a ≡ b = some-one (slice_get actors d.place) a b ea (subst (λ n. slice_get actors n ≡ Some b) p e) in
              let mine : slice_get cs d.place ≡ Some asked.0 = ap (λ (ys : List B). slice_get ys d.place) asked.1 ∙ set-here bs d.place asked.0 (let n = at.behaviours_are in omega (arith, low, n)) in
              let ev : asked.0 ≡ v = some-one (slice_get cs d.place) asked.0 v mine (subst (λ n. slice_get cs n ≡ Some v) p f) in
              let er : rp ≡ r = some-one (slice_get h'.rings d.place) rp r here (subst (λ n. slice_get h'.rings n ≡ Some r) p g) in
              subst (λ n. IsSeat offer agrees until (steps ++ x ∷ []) b v (next_at h'.next n) r (get_or h'.queued n 0)) (sym p)
              (subst (λ (s : RingValue). IsSeat offer agrees until (steps ++ x ∷ []) b v (next_at h'.next d.place) s (get_or h'.queued d.place 0)) er
              (subst (λ (w : B). IsSeat offer agrees until (steps ++ x ∷ []) b w (next_at h'.next d.place) rp (get_or h'.queued d.place 0)) ev
              (subst (λ (y : Actor). IsSeat offer agrees until (steps ++ x ∷ []) y asked.0 (next_at h'.next d.place) rp (get_or h'.queued d.place 0)) eb own)))
          go (inr n) =
              let fb : slice_get bs i ≡ Some v = sym (set-other bs d.place i asked.0 n) ∙ sym (ap (λ (ys : List B). slice_get ys i) asked.1) ∙ f in
              let s = at.seats i b v r e fb (sym (others i n) ∙ g) in
              let m : next_at h'.next i ≡ next_at h.next i = ap (λ (xs : List (Option Offer)). next_at xs i) asked.3 ∙ get_or-set_other h.next d.place i answer None n in
              let k : get_or h'.queued i 0 ≡ get_or h.queued i 0 = ap (λ (xs : List ℕ). get_or xs i 0) counted ∙ get_or-set_other h.queued d.place i (suc (get_or h.queued d.place 0)) 0 n in
              subst (λ (o : Option Offer). IsSeat offer agrees until (steps ++ x ∷ []) b v o r (get_or h'.queued i 0)) (sym m)
              (subst (λ z. IsSeat offer agrees until (steps ++ x ∷ []) b v (next_at h.next i) r z) (sym k)
              (seat-other offer agrees until steps x b v (next_at h.next i) r (get_or h.queued i 0) (Places.apart offer agrees plan until firsts bs h steps at d.place i a b ea e n) refl refl at.goes.ended s))

      pub queued-at : IsAt offer agrees plan until firsts cs h' (steps ++ x ∷ [])
      queued-at = record {
        planned = at.planned;
        distinct = at.distinct;
        firsts_are = at.firsts_are;
        ahead = ahead';
        goes = goes';
        sized = record {
          ids = ap (λ (xs : List ℕ). length xs) q.ids ∙ at.sized.ids;
          next = ap (λ (xs : List (Option Offer)). length xs) asked.3 ∙ length-set h.next d.place answer ∙ at.sized.next;
          rings = many;
          queued = ap (λ (xs : List ℕ). length xs) counted ∙ length-set h.queued d.place (suc (get_or h.queued d.place 0)) ∙ at.sized.queued;
        };
        ids_are = q.ids ∙ at.ids_are;
        behaviours_are = ap (λ (ys : List B). length ys) asked.1 ∙ length-set bs d.place asked.0 ∙ at.behaviours_are;
        seats = seats';
        runs = q.running ∙ at.runs ∙ ap flipped (sym runs');
        now_is = q.now by-until ∙ sym (now-one steps x);
        awaited = awaited';
        noted = noted-now;
        synchronous = synchronous-now;
      }
