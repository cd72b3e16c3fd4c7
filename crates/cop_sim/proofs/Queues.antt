-- A queue step of the simulator, and why there is none.
use Rattle.std.proofs.Common.{◌≡◌, ◌≢◌, ℕ, ◌+◌, ◌-◌, ◌≤◌, ◌<◌, ◌^◌, ◌⊎◌, inl, inr, List, [], ◌∷◌, ◌++◌, length, get_or, slice_get, Option, Some, None, Bool, true, false, cond, ◌||◌, nat_le, nat_lt, refl, sym, ap, ◌∙◌, subst, arith, suc}
use Rattle.std.specs.Int.{div_ceil}
use Rattle.std.specs.Option.{ForSome, option_and_then, option_map_or}
use Rattle.std.proofs.lemmas.Bool.{cases_eq, cases_lt, lt-ltb, ltb-true, or_left, or_right}
use Rattle.std.proofs.lemmas.List.{length-set, get_or-set_other}
use Rattle.cop_frame.specs.Rate.{ticks_of}
use Rattle.cop_rta.specs.declared.streams.Stream.{Stream}
use Rattle.cop_rta.specs.declared.ranges.IdRange.{IdRange}
use Rattle.cop_rta.specs.Ranges.{first_range, second_range, IsIn, IsOutside, IsPermitted}
use Rattle.cop_bus.specs.declared.steps.Step.{Step}
use Rattle.cop_bus.specs.Trace.{is_queue, is_start}
use Rattle.cop_bus.specs.Rings.{RingValue, any_in, is_within, is_pdo, most_of}
use Rattle.cop_bus.proofs.Work.{eq-true, le-true, true-le}
use Rattle.cop_bus.proofs.Demand.{and-left, and-right, and-true}
use Rattle.cop_bus.proofs.StepLemmas.{bool_cases}
use Rattle.cop_bus.proofs.Appended.{last-one}
use Rattle.cop_plan.specs.Values.{PlanValue}
use Rattle.cop_sim.specs.declared.behaviours.Offer.{Offer}
use Rattle.cop_sim.specs.declared.due.Due.{Due}
use Rattle.cop_sim.specs.declared.faults.SimFault.TheVariants.{Disobeys as DisobeysAt, Backlog}
use Rattle.cop_sim.specs.Play.{Actor, actors_of, queued_at, queue_step, by_end, next_offer, obeys, queued_before, IsSentAhead, IsPartialPlay}
use Rattle.cop_sim.specs.declared.cues.Cue.{Cue}
use Rattle.cop_sim.specs.Cues.{cue_by, cue_of, answer_in, from_of}
use Rattle.cop_sim.specs.Syncs.{SyncsValue, AreNoted, with_event, noted_cue}
use Rattle.cop_sim.specs.Seats.{next_at, answer_of, asks, IsDueTo}
use Rattle.cop_sim.specs.Sinks.{IsCause}
use Rattle.cop_sim.specs.Stages.{AtHand, IsSeat, queues, starts, IsAwaited, IsAt, instance_of, with_last, IsFull, IsQueued}
use Rattle.cop_sim.proofs.Bounded.{few-wait}
use Rattle.cop_sim.proofs.Held.{held-joined, held-queued}
use Rattle.cop_sim.proofs.Cued.{before-own, cue-at}
use Rattle.cop_sim.proofs.Noted.{noted-queue, noted-cue-is}
use Rattle.cop_sim.proofs.Kept.{count-kept, count-raised, offered-given}
use Rattle.cop_sim.proofs.Plays.{partial}
use Rattle.cop_sim.proofs.Places as Places
use Rattle.cop_bus.proofs.AtPlace.{set-here, set-other, some-one, contained}
use Rattle.cop_sim.proofs.Queueing as Queueing

joined-cases : (j : Option ℕ) (p : ℕ) → (j ≡ Some p) ⊎ (j ≢ Some p)
joined-cases None p = inr (λ e. cc)
joined-cases (Some i) p = elim (cases_eq i p) [ inl e ↦ inl (ap Some e) | inr n ↦ inr (λ e. n (some i p e)) ]
  where
    some : (i p : ℕ) → Some i ≡ Some p → i ≡ p
    some i p e = cc

most-pdo : (k : Stream) (d : ℕ) → is_pdo k ≡ true → k.deadline ≡ Some d → most_of k ≡ div_ceil d k.period
most-pdo k d e f = rw (e, f) refl

most-fixed : (k : Stream) → is_pdo k ≡ false → most_of k ≡ 64
most-fixed k e = rw e refl

within : (range : IdRange) (id : ℕ) → IsIn range id → is_within range id ≡ true
within range id h = and-true (nat_le range.least id) (nat_lt id (range.least + range.count)) (le-true range.least id h.0) (lt-ltb id (range.least + range.count) h.1)

not-within : (range : IdRange) (id : ℕ) → IsOutside range id → is_within range id ≡ false
not-within range id h = elim (bool_cases (is_within range id)) [
  | inr f ↦ f
  | inl t ↦ (let a = true-le range.least id (and-left (nat_le range.least id) (nat_lt id (range.least + range.count)) t) in
      let b = ltb-true id (range.least + range.count) (and-right (nat_le range.least id) (nat_lt id (range.least + range.count)) t) in
      elim h [ inl l ↦ absurd (omega (arith, l, a)) | inr l ↦ absurd (omega (arith, l, b)) ])
]

pdo-range : (pdos : ℕ) (k : Stream) → IsPermitted pdos k.id → is_pdo k ≡ true
pdo-range pdos k (inl first) = or_left (is_within first_range k.id) (is_within second_range k.id) (within first_range k.id first)
pdo-range pdos k (inr second) = or_right (is_within first_range k.id) (is_within second_range k.id) (within second_range k.id second.1)

or-none : (a b : Bool) → a ≡ false → b ≡ false → (a || b) ≡ false
or-none a b e f = rw (e, f) refl

pdo-outside : (k : Stream) → IsOutside first_range k.id → IsOutside second_range k.id → is_pdo k ≡ false
pdo-outside k first second = or-none (is_within first_range k.id) (is_within second_range k.id) (not-within first_range k.id first) (not-within second_range k.id second)

module _ {B : Type 0} (offer : B → ℕ → Option Offer) (agrees : B → ℕ → ℕ → Bool) (plan : PlanValue) (until : ℕ) (firsts bs : List B) (h : AtHand) (steps : List Step) (at : IsAt offer agrees plan until firsts bs h steps)
    (d : Due) (first : IsDueTo plan.streams h.next (length h.next) d) (before : ForSome h.running (λ r. queued_at d.offer < r.0)) (idle : h.running ≡ None → any_in h.rings ≡ true → queued_at d.offer ≤ h.now)
    (a : Actor) (ea : slice_get (actors_of offer agrees plan.streams firsts) d.place ≡ Some a) where
  abbrev actors : List Actor
  actors = actors_of offer agrees plan.streams firsts

  abbrev x : Step
  x = queue_step a.stream.id d.offer

  low : d.place < length plan.streams
  low = Places.within offer agrees plan until firsts bs h steps at d.place a ea

  abbrev seat : (b : B) × (r : RingValue) × (slice_get bs d.place ≡ Some b) × (slice_get h.rings d.place ≡ Some r) × IsSeat offer agrees until steps a b (next_at h.next d.place) r (get_or h.queued d.place 0)
  seat = Queueing.seat offer agrees plan until firsts bs h steps at d first before idle a ea

  pub its : d.id ≡ a.stream.id
  its = sym first.its ∙ Places.id-of offer agrees plan until firsts bs h steps at d.place a ea

  pub in-time : queued_at d.offer ≤ until
  in-time = Queueing.by-until offer agrees plan until firsts bs h steps at d first before idle a ea

  -- the joiner that is awaited is its
  module _ (j : h.joined ≡ Some d.place) where
    waited : IsAwaited actors h.next steps at.ahead (Some d.place)
    waited = subst (IsAwaited actors h.next steps at.ahead) j at.awaited

    its-own : waited.0 ≡ a
    its-own = some-one (slice_get actors d.place) waited.0 a waited.1 ea

    same-offer : (waited.3).0 ≡ d.offer
    same-offer = some-one (next_at h.next d.place) (waited.3).0 d.offer (waited.3).1 first.here

    pub is-ahead : at.ahead ≡ x ∷ []
    is-ahead = (waited.3).2 ∙ ap (λ (b : Actor). queue_step b.stream.id (waited.3).0 ∷ []) its-own ∙ ap (λ o. queue_step a.stream.id o ∷ []) same-offer

    sent-ahead : queues a.stream.id steps < starts a.stream.id steps
    sent-ahead = subst (IsSentAhead steps) its-own waited.2

  pub partial-after : IsPartialPlay (ticks_of plan.rate) actors until (steps ++ x ∷ [])
  partial-after = elim (joined-cases h.joined d.place) [
    | inl j ↦ partial plan.rate actors (Places.distinct offer agrees plan until firsts bs h steps at) until (steps ++ x ∷ []) [] (Queueing.goes-joined offer agrees plan until firsts bs h steps at d first before idle a ea (is-ahead j))
    | inr n ↦ partial plan.rate actors (Places.distinct offer agrees plan until firsts bs h steps at) until (steps ++ x ∷ []) at.ahead (Queueing.goes-behind offer agrees plan until firsts bs h steps at d first before idle a ea n)
  ]

  module _ (h' : AtHand) (cs : List B) (q : IsQueued offer agrees until plan.streams d h h' bs cs)
      (again : (o : Offer) (k : Stream) → next_at h'.next d.place ≡ Some o → slice_get plan.streams d.place ≡ Some k → obeys k (Some d.offer) (from_of (noted_cue h'.syncs k (get_or h'.queued d.place 0)) o) o ≡ true)
      (room : get_or h.queued d.place 0 < 2 ^ 64 - 1) where
    abbrev answer : Option Offer
    answer = Queueing.answer offer agrees plan until firsts bs h steps at d first before idle a ea h' cs q again room

    after : answer ≡ next_offer until (steps ++ x ∷ []) (length (steps ++ x ∷ [])) a
    after = Queueing.answer-next offer agrees plan until firsts bs h steps at d first before idle a ea h' cs q again room

    still-awaited : h.joined ≢ Some d.place → h'.joined ≡ h.joined → IsAwaited actors h'.next (steps ++ x ∷ []) at.ahead h'.joined
    still-awaited n e = subst (IsAwaited actors h'.next (steps ++ x ∷ []) at.ahead) (sym e) (go h.joined refl at.awaited)
      where
        go : (j : Option ℕ) → h.joined ≡ j → IsAwaited actors h.next steps at.ahead j → IsAwaited actors h'.next (steps ++ x ∷ []) at.ahead j
        go None r w = w
        go (Some i) r w =
            let m : i ≢ d.place = λ f. n (r ∙ ap Some f) in
            let asked = q.asked a.stream seat.0 (Places.stream-of offer agrees plan until firsts bs h steps at d.place a ea) seat.2 in
            let f = Places.apart offer agrees plan until firsts bs h steps at d.place i a w.0 ea w.1 m in
            let c = count-kept (is_queue (w.0).stream.id) steps x f in
            let s = count-kept (is_start (w.0).stream.id) steps x refl in
            let l = w.2 in
            (w.0, w.1, omega (arith, c, s, l), ((w.3).0, ap (λ (xs : List (Option Offer)). next_at xs i) asked.3 ∙ get_or-set_other h.next d.place i answer None m ∙ (w.3).1, (w.3).2))

    pub after-queue : IsAt offer agrees plan until firsts cs h' (steps ++ x ∷ [])
    after-queue = elim (q.put in-time) [
      | inl p ↦ Queueing.queued-at offer agrees plan until firsts bs h steps at d first before idle a ea h' cs q again room
          [] (Queueing.goes-joined offer agrees plan until firsts bs h steps at d first before idle a ea (is-ahead p.0)) (Queueing.runs-joined offer agrees plan until firsts bs h steps at d first before idle a ea (is-ahead p.0))
          seat.1 (ap (λ (rs : List RingValue). slice_get rs d.place) p.2 ∙ seat.3) (λ i n. ap (λ (rs : List RingValue). slice_get rs i) p.2) (ap (λ (rs : List RingValue). length rs) p.2 ∙ at.sized.rings)
          (held-joined until steps d.offer a (next_at h.next d.place) answer seat.1 (sent-ahead p.0) seat.4.held after) refl
          (subst (IsAwaited actors h'.next (steps ++ x ∷ []) []) (sym p.1) refl)
      | inr p ↦ (let r = p.2 seat.1 seat.3 in
          let y = instance_of d in
          Queueing.queued-at offer agrees plan until firsts bs h steps at d first before idle a ea h' cs q again room
          at.ahead (Queueing.goes-behind offer agrees plan until firsts bs h steps at d first before idle a ea p.0) (Queueing.runs-behind offer agrees plan until firsts bs h steps at d first before idle a ea p.0)
          (with_last seat.1 y) (ap (λ (rs : List RingValue). slice_get rs d.place) r.1 ∙ set-here h.rings d.place (with_last seat.1 y) (let n = at.sized.rings in let l = low in omega (arith, l, n)))
          (λ i n. ap (λ (rs : List RingValue). slice_get rs i) r.1 ∙ set-other h.rings d.place i (with_last seat.1 y) n)
          (ap (λ (rs : List RingValue). length rs) r.1 ∙ length-set h.rings d.place (with_last seat.1 y) ∙ at.sized.rings)
          (held-queued until steps d.offer y a (next_at h.next d.place) answer seat.1 refl refl refl (Queueing.sent-few offer agrees plan until firsts bs h steps at d first before idle a ea p.0) seat.4.held after) refl
          (still-awaited p.0 p.1))
    ]

  -- ---- faults

  -- an answer that does not obey, by the SYNCs that are noted then
  module _ (n : ℕ) (raised-to : n ≡ suc (get_or h.queued d.place 0)) where
    abbrev v : SyncsValue
    v = with_event h.syncs d.id d.offer.event

    abbrev cue : Cue
    cue = noted_cue v a.stream n

    count-now : queues a.stream.id (steps ++ x ∷ []) ≡ n
    count-now = (let r = count-raised (is_queue a.stream.id) steps x (eq-true a.stream.id a.stream.id refl) in let c = seat.4.count in omega (arith, r, c, raised-to))

    noted-now : AreNoted (steps ++ x ∷ []) v
    noted-now = subst (λ k. AreNoted (steps ++ x ∷ []) (with_event h.syncs k d.offer.event)) (sym its) (noted-queue steps h.syncs a.stream.id (queued_at d.offer) d.offer.event d.offer.frame at.noted)

    cue-now : cue ≡ cue_of (steps ++ x ∷ []) (length (steps ++ x ∷ [])) a.stream
    cue-now = noted-cue-is (steps ++ x ∷ []) v plan.streams d.place a.stream n noted-now at.synchronous (Places.stream-of offer agrees plan until firsts bs h steps at d.place a ea) ∙ ap (cue_by (steps ++ x ∷ []) a.stream) (sym count-now) ∙ sym (cue-at a.stream (steps ++ x ∷ []))

    given : asks (cue_of steps (length steps) a.stream) ≡ 1
    given = ap (λ b. cond b 1 0) (offered-given until steps (length steps) a d.offer (Queueing.is-next offer agrees plan until firsts bs h steps at d first before idle a ea))

    pub after-disobeys : (failed : Bool) (o : Offer) → answer_of offer until cue (Some d.offer) seat.0 ≡ Some o → obeys a.stream (Some d.offer) (from_of cue o) o ≡ false →
        IsCause plan actors (length plan.streams) until failed (DisobeysAt d.place n) × IsPartialPlay (ticks_of plan.rate) actors until (steps ++ x ∷ [])
    after-disobeys failed o f g =
        let asked : offer seat.0 0 ≡ a.offer (queues a.stream.id (steps ++ x ∷ [])) =
        seat.4.rest 0 ∙ ap a.offer (let c = given in let r = count-raised (is_queue a.stream.id) steps x (eq-true a.stream.id a.stream.id refl) in
        let e : queues a.stream.id steps + (asks (cue_of steps (length steps) a.stream) + 0) ≡ queues a.stream.id (steps ++ x ∷ []) = omega (arith, r, c) in e) in
        let own = before-own a.stream.id steps d.offer in (
          (
            a,
            ea,
            record {
              its = contained actors d.place a ea;
              steps = steps ++ x ∷ [];
              partial = partial-after;
              number = count-now;
              offer = o;
              is_next = ap (option_and_then (by_end until)) (ap (λ c. answer_in c (queued_before a.stream.id (steps ++ x ∷ []) (length (steps ++ x ∷ []))) (a.offer (queues a.stream.id (steps ++ x ∷ [])))) (sym cue-now)
                  ∙ ap (λ b. answer_in cue b (a.offer (queues a.stream.id (steps ++ x ∷ [])))) own ∙ ap (answer_in cue (Some d.offer)) (sym asked)) ∙ f;
              breaks = ap (λ b. obeys a.stream b (from_of (cue_of (steps ++ x ∷ []) (length (steps ++ x ∷ [])) a.stream) o) o) own ∙ ap (λ c. obeys a.stream (Some d.offer) (from_of c o) o) (sym cue-now) ∙ g;
            },
          ),
          partial-after,
        )

  module _ (full : IsFull h.rings h.joined d.place) where
    abbrev after-steps : List Step
    after-steps = steps ++ x ∷ []

    too-many : length seat.1.waiting < queues a.stream.id after-steps - starts a.stream.id after-steps
    too-many =
        let c = Places.raised-by a.stream.id steps d.offer in
        let s = count-kept (is_start a.stream.id) steps x refl in
        let n = seat.4.held.count in
        let f = Queueing.sent-few offer agrees plan until firsts bs h steps at d first before idle a ea full.0 in
        omega (arith, c, s, n, f)

    most-full : most_of a.stream ≤ length seat.1.waiting
    most-full = subst (λ n. n ≤ length seat.1.waiting) seat.4.most (full.1 seat.1 seat.3)

    stream-here : slice_get plan.streams d.place ≡ Some a.stream
    stream-here = Places.stream-of offer agrees plan until firsts bs h steps at d.place a ea

    -- a PDO's ring is never full
    not-pdo : length plan.ids ≤ d.place
    not-pdo = elim (cases_lt d.place (length plan.ids)) [
      | inr l ↦ l
      | inl l ↦ (let id : a.stream.id ≡ _ = ap (λ o. option_map_or (λ s. s.id) o 0) (sym stream-here) ∙ at.planned.its d.place l in
          let permitted = subst (λ (n : ℕ). IsPermitted (length plan.ids) n) (sym id) (at.planned.assigned.permitted d.place l) in
          let dl = at.planned.on_time.deadlines d.place l in
          let e : a.stream.deadline ≡ Some dl.0 = subst (λ o. option_and_then (λ (s : Stream). s.deadline) o ≡ Some dl.0) stream-here dl.1 in
          let m = most-pdo a.stream dl.0 (pdo-range (length plan.ids) a.stream permitted) e in
          let w = few-wait plan at.planned.on_time at.planned.synced actors (Places.streams-same offer agrees plan until firsts bs h steps at) until after-steps partial-after a.stream (d.place, l, stream-here) dl.0 e in
          let t = too-many in let f = most-full in absurd (omega (arith, m, w, t, f)))
    ]

    is-fixed : most_of a.stream ≡ 64
    is-fixed = most-fixed a.stream (pdo-outside a.stream
        (subst (λ o. IsOutside first_range (option_map_or (λ s. s.id) o 0)) stream-here (at.planned.outside_first d.place not-pdo low))
        (subst (λ o. IsOutside second_range (option_map_or (λ s. s.id) o 0)) stream-here (at.planned.outside_second d.place not-pdo low)))

    pub after-full : (failed : Bool) → IsCause plan actors (length plan.streams) until failed (Backlog d.id)
    after-full failed = (
      (d.place, not-pdo, (a.stream, stream-here, sym its)),
      record {
        steps = after-steps;
        partial = partial-after;
        queued = ap (is_queue d.id) (last-one steps x) ∙ eq-true a.stream.id d.id (sym its);
        too_many = (let t = too-many in let f = most-full in let m = is-fixed in
            subst (λ k. 64 < queues k after-steps - starts k after-steps) (sym its) (omega (arith, t, f, m)));
      },
    )
