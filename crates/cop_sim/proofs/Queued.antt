-- A queue step of a play leaves a partial play that goes on.
use Rattle.std.proofs.Common.{◌≡◌, ℕ, ◌+◌, ◌-◌, ◌≤◌, ◌<◌, ◌⊎◌, inl, inr, List, [], ◌∷◌, ◌++◌, length, refl, sym, ◌∙◌, ap, subst, arith, suc, true, false, cond, ◌&&◌, nat_lt, nat_le}
use Rattle.std.specs.Prelude.{Option, None, Some, is_some, Contains, ◌==◌}
use Rattle.std.proofs.lemmas.Bool.{cases_lt}
use Rattle.cop_bus.specs.declared.steps.Step.{Step}
use Rattle.cop_bus.specs.declared.steps.Step.TheVariants.{Queue}
use Rattle.cop_bus.specs.Trace.{is_queue, is_start, count_to, running, at_of}
use Rattle.cop_bus.specs.Ends.{is_end}
use Rattle.cop_rta.specs.Test.{sync_id}
use Rattle.cop_bus.specs.Judge.{stream_of, last_event, is_in_order, not_before, is_period_later, is_queued_in_time, is_of_length, fits_transfer, is_not_idle, broken_by}
use Rattle.cop_bus.proofs.Demand.{and-true}
use Rattle.cop_bus.proofs.Work.{true-le, le-true, lt-true, true-eq, eq-true}
use Rattle.cop_bus.proofs.StepLemmas.{bool_cases}
use Rattle.cop_bus.proofs.Verdict.{Keeps, keeps}
use Rattle.cop_bus.proofs.Found.{or-left, or-right}
use Rattle.cop_sim.specs.declared.behaviours.Offer.{Offer}
use Rattle.cop_sim.specs.Play.{Actor, streams_of, queued_at, queue_step, next_offer, IsSentAhead, obeys, obeys_after, queued_before}
use Rattle.cop_sim.specs.Cues.{cue_of, from_of}
use Rattle.cop_bus.proofs.Grows.{last_event-more}
use Rattle.cop_bus.proofs.Appended.{step_at-here, length-one, one-more, now-one, last-one, count_to-one, last_event-here}
use Rattle.cop_sim.proofs.Going.{FindsTheSame, finds-more, finds-between, fine-one, running-kept, running-one, keeps-none, order-more, idle-more, runs-idle}
use Rattle.cop_sim.proofs.Cued.{EndQueued, before-own}
use Rattle.cop_sim.proofs.Marks.{AnchorsAgree, anchors-more, anchors-kept, period-same, time-same, obeys-is, hangs}
use Rattle.cop_sim.proofs.Kept.{at-cases, next-is, count-kept, next-kept, next-stays, obeys-kept, offers-one, rising-one, starts-one, lowest-one}
use Rattle.cop_sim.specs.Going.{IsNext, queued_ahead, Goes}
use Rattle.cop_sim.proofs.Goes.{order-end, by-now}

module _ (tau : ℕ) (actors : List Actor) (until : ℕ) (there : (a : Actor) → Contains actors a → stream_of (streams_of actors) a.stream.id ≡ Some a.stream)
    (same : (a b : Actor) → Contains actors a → Contains actors b → a.stream.id ≡ b.stream.id → a ≡ b)
    (steps ahead : List Step) (goes : Goes tau actors until steps ahead) (a : Actor) (c : Contains actors a) (o : Offer) (is_next : next_offer until steps (length steps) a ≡ Some o)
    (obeying : obeys_after steps (length steps) a.stream o ≡ true)
    (least : (b : Actor) → Contains actors b → (p : Offer) → next_offer until steps (length steps) b ≡ Some p → (queued_at o < queued_at p) ⊎ ((queued_at o ≡ queued_at p) × (a.stream.id ≤ b.stream.id)))
    (before_end : (r : ℕ × ℕ) → running tau (steps ++ ahead) (length steps) ≡ Some r → queued_at o < r.1) where
  abbrev x : Step
  x = queue_step a.stream.id o

  its : IsNext until steps a o
  its = goes.next a c o is_next obeying

  -- no SYNC ends
  still-ended : EndQueued (steps ++ x ∷ [])
  still-ended = let n = count-kept (is_end sync_id) steps x refl in let q = count_to-one (is_queue sync_id) steps x in let few = goes.ended in omega (arith, n, q, few)

  -- what it hangs on keeps the rules
  hang : (is_period_later (Some a.stream) (last_event a.stream.id steps (length steps)) steps (length steps) x ≡ true) × (is_queued_in_time (Some a.stream) steps (length steps) x ≡ true)
  hang = hangs tau (streams_of actors) until steps ahead goes.fine goes.ended a (goes.offers a c) o (next-is until steps (length steps) a o is_next).0 obeying

  -- the offer comes in turn before another that is not queued before it
  ordered : (b : Actor) (p : Offer) → queued_at o ≤ queued_at p → not_before x (queue_step b.stream.id p) ≡ true
  ordered b p l = elim (cases_lt (queued_at o) (queued_at p)) [
    | inl g ↦ or-left (nat_lt (queued_at o) (queued_at p)) _ (lt-true (queued_at o) (queued_at p) g)
    | inr g ↦ or-right (nat_lt (queued_at o) (queued_at p)) _ (and-true (queued_at o == queued_at p) (nat_le 1 1) (eq-true (queued_at o) (queued_at p) (omega arith)) refl)
  ]

  in-turn : (b : Actor) (p : Offer) → queued_at o ≤ queued_at p → queued_at p ≤ until → is_in_order until (steps ++ x ∷ []) (length (steps ++ x ∷ [])) (queue_step b.stream.id p) ≡ true
  in-turn b p l m =
      ap (λ i. is_in_order until (steps ++ x ∷ []) i (queue_step b.stream.id p)) (length-one steps x)
      ∙ ap (λ y. nat_le (queued_at p) until && not_before y (queue_step b.stream.id p)) (step_at-here steps x [])
      ∙ and-true (nat_le (queued_at p) until) (not_before x (queue_step b.stream.id p)) (le-true (queued_at p) until m) (ordered b p l)

  not-after : (b : Actor) → Contains actors b → (p : Offer) → next_offer until steps (length steps) b ≡ Some p → queued_at o ≤ queued_at p
  not-after b d p q = elim (least b d p q) [ inl l ↦ omega arith | inr l ↦ (let e = l.0 in omega arith) ]

  -- what comes after another's queue step
  other : (b : Actor) → Contains actors b → is_queue b.stream.id x ≡ false → (p : Offer) → next_offer until steps (length steps) b ≡ Some p →
      obeys_after steps (length steps) b.stream p ≡ true → IsNext until (steps ++ x ∷ []) b p
  other b d f p q w0 = record {
    in_turn = in-turn b p (not-after b d p q) (next-is until steps (length steps) b p q).1;
    obeying = obeys-kept steps x b.stream p f refl goes.ended ∙ w0;
    rising = λ i k event frame j e. (elim (at-cases steps x i j) [
      | inl w ↦ (goes.next b d p q w0).rising i k event frame w.0 (sym w.1 ∙ e)
      | inr w ↦ (let z : Queue a.stream.id (queued_at o) o.event o.frame ≡ Queue k (queued_at p) event frame = sym w.1 ∙ e in
          let k1 : a.stream.id ≡ k = cc in let m1 : queued_at o ≡ queued_at p = cc in
          elim (least b d p q) [ inl l ↦ absurd (omega (arith, l, m1)) | inr l ↦ (let g = l.1 in omega (arith, g, k1)) ])
    ]);
  }

  -- and what comes after its own
  own : (p : Offer) → queued_at p ≤ until → obeys_after (steps ++ x ∷ []) (length (steps ++ x ∷ [])) a.stream p ≡ true → IsNext until (steps ++ x ∷ []) a p
  own p m h =
      let from = from_of (cue_of (steps ++ x ∷ []) (length (steps ++ x ∷ [])) a.stream) p in
      let u : obeys a.stream (Some o) from p ≡ true = sym (ap (λ v. obeys a.stream v from p) (before-own a.stream.id steps o)) ∙ h in
      let t = true-le (queued_at o) (queued_at p) (obeys-is a.stream (Some o) from p u).3 in
      record {
        in_turn = in-turn a p t m;
        obeying = h;
        rising = λ i k event frame j e. (elim (at-cases steps x i j) [
          | inl w ↦ elim (cases_lt (queued_at o) (queued_at p)) [
            | inl g ↦ (let u = by-now tau (streams_of actors) until steps ahead goes.fine (length steps - suc i) i (let wl = w.0 in omega arith) in
                let v = (order-end until steps x its.in_turn).1 in
                let z = ap at_of (sym w.1 ∙ e) in absurd (omega (arith, u, v, z, g)))
            | inr g ↦ (let s : queued_at p ≡ queued_at o = omega (arith, g, t) in its.rising i k event frame w.0 (sym w.1 ∙ e ∙ ap (λ m. Queue k m event frame) s))
          ]
          | inr w ↦ (let z : Queue a.stream.id (queued_at o) o.event o.frame ≡ Queue k (queued_at p) event frame = sym w.1 ∙ e in let k1 : a.stream.id ≡ k = cc in omega (arith, k1))
        ]);
      }

  module _ (more : List Step) (look : FindsTheSame steps ahead (x ∷ more)) (here : broken_by tau (streams_of actors) until (steps ++ x ∷ more) (length steps) x ≡ None)
      (more-fine : (y : Step) → more ≡ y ∷ [] → broken_by tau (streams_of actors) until ((steps ++ x ∷ []) ++ more) (length (steps ++ x ∷ [])) y ≡ None)
      (sent : (more ≡ []) ⊎ ((b : Actor) × Contains actors b × IsSentAhead (steps ++ x ∷ []) b × ((p : Offer) × (next_offer until (steps ++ x ∷ []) (length (steps ++ x ∷ [])) b ≡ Some p) × (more ≡ queue_step b.stream.id p ∷ []))))
      (clear : ahead ≡ [] → more ≡ [])
      (started : (k : ℕ) → count_to (is_start k) steps (length steps) ≤ count_to (is_queue k) (steps ++ x ∷ []) (length (steps ++ x ∷ [])) + queued_ahead k more) where
    pub runs-after : running tau ((steps ++ x ∷ []) ++ more) (length (steps ++ x ∷ [])) ≡ running tau (steps ++ ahead) (length steps)
    runs-after = running-one tau (streams_of actors) until steps ahead more x look goes.fine

    next-after : (b : Actor) → Contains actors b → (p : Offer) → next_offer until (steps ++ x ∷ []) (length (steps ++ x ∷ [])) b ≡ Some p →
        obeys_after (steps ++ x ∷ []) (length (steps ++ x ∷ [])) b.stream p ≡ true → IsNext until (steps ++ x ∷ []) b p
    next-after b d p q w = elim (bool_cases (a.stream.id == b.stream.id)) [
      | inr f ↦ other b d f p (sym (next-kept until steps x b f refl goes.ended) ∙ q) (sym (obeys-kept steps x b.stream p f refl goes.ended) ∙ w)
      | inl t ↦ (let e : a ≡ b = same a b c d (true-eq a.stream.id b.stream.id t) in
          let r = subst (λ v. next_offer until (steps ++ x ∷ []) (length (steps ++ x ∷ [])) v ≡ Some p) (sym e) q in
          let u = subst (λ v. obeys_after (steps ++ x ∷ []) (length (steps ++ x ∷ [])) v.stream p ≡ true) (sym e) w in
          subst (λ v. IsNext until (steps ++ x ∷ []) v p) e (own p (next-is until (steps ++ x ∷ []) (length (steps ++ x ∷ [])) a p r).1 u))
    ]

    pub queued : Goes tau actors until (steps ++ x ∷ []) more
    queued = record {
      fine = fine-one tau (streams_of actors) until steps ahead more x look goes.fine here;
      ahead_fine = more-fine;
      sent = sent;
      clear = λ r. clear (goes.clear (sym runs-after ∙ r));
      started = λ k. (let s = count-kept (is_start k) steps x refl in let g = started k in omega (arith, s, g));
      unfinished = λ r q. (let l = before_end r (sym runs-after ∙ q) in let n = now-one steps x in omega (arith, l, n));
      known = λ r q. goes.known r (sym runs-after ∙ q);
      offers = λ b d. offers-one until steps x b (goes.offers b d) (λ t. (let e : a ≡ b = same a b c d (true-eq a.stream.id b.stream.id t) in (o, subst (λ v. next_offer until steps (length steps) v ≡ Some o) e is_next, ap (λ v. queue_step v.stream.id o) e)));
      ended = still-ended;
      next = next-after;
      none_left_out = λ b d f p q. (let z = sym (ap (is_queue b.stream.id) (last-one steps x)) ∙ f in
          let l = not-after b d p (sym (next-kept until steps x b z refl goes.ended) ∙ q) in let n = now-one steps x in omega (arith, l, n));
      rising = rising-one steps x goes.rising (λ i at k k' event event' frame frame' l q p. (let m1 : at ≡ queued_at o = cc in let k1 : k' ≡ a.stream.id = cc in
          let g = its.rising i k event frame l (q ∙ ap (λ m. Queue k m event frame) m1) in omega (arith, g, k1)));
      none_at_end = starts-one until steps x goes.none_at_end (λ z k p. absurd (cc));
      lowest = lowest-one tau actors until steps x goes.lowest (λ z k p. absurd (cc));
    }

  stream-is : stream_of (streams_of actors) a.stream.id ≡ Some a.stream
  stream-is = there a c

  -- An instance that waits from then on, of another stream than a joiner that was sent.
  module _ (not_idle : is_not_idle (streams_of actors) steps (length steps) (running tau (steps ++ ahead) (length steps)) (queued_at o) ≡ true)
      (apart : (y : Step) → ahead ≡ y ∷ [] → is_queue a.stream.id y ≡ false) where
    pub between : FindsTheSame steps ahead (x ∷ ahead)
    between = elim goes.sent [
      | inl n ↦ subst (λ t. FindsTheSame steps t (x ∷ t)) (sym n) (finds-more steps (x ∷ []))
      | inr w ↦ (let y = queue_step (w.0).stream.id (w.3).0 in
          subst (λ t. FindsTheSame steps t (x ∷ t)) (sym (w.3).2) (finds-between steps x y (λ id. elim (bool_cases (a.stream.id == id)) [
            | inr f ↦ inl f
            | inl t ↦ inr (subst (λ k. is_queue k y ≡ false) (true-eq a.stream.id id t) (apart y (w.3).2))
          ])))
    ]

    runs-before : running tau (steps ++ x ∷ ahead) (length steps) ≡ running tau (steps ++ ahead) (length steps)
    runs-before = running-kept tau (streams_of actors) until steps ahead (x ∷ ahead) between goes.fine

    fits : (r : Option (ℕ × ℕ)) → running tau (steps ++ ahead) (length steps) ≡ r → fits_transfer r x ≡ true
    fits None e = refl
    fits (Some r) e = lt-true (queued_at o) r.1 (before_end r e)

    queue-keeps : Keeps tau (streams_of actors) until (steps ++ x ∷ ahead) (length steps) x
    queue-keeps =
        let t = obeys-is a.stream (queued_before a.stream.id steps (length steps)) (from_of (cue_of steps (length steps) a.stream) o) o its.obeying in
        record {
          order = order-more until steps (x ∷ ahead) x ∙ its.in_turn;
          known = ap is_some stream-is;
          period = ap (λ s. is_period_later s (last_event a.stream.id (steps ++ x ∷ ahead) (length steps)) (steps ++ x ∷ ahead) (length steps) x) stream-is
              ∙ ap (λ v. is_period_later (Some a.stream) v (steps ++ x ∷ ahead) (length steps) x) (last_event-more a.stream.id steps (x ∷ ahead) (length steps) (omega arith))
              ∙ period-same (Some a.stream) a.stream (last_event a.stream.id steps (length steps)) o (steps ++ x ∷ ahead) (length steps) steps (length steps) refl (anchors-more a.stream steps (x ∷ ahead) goes.ended) ∙ hang.0;
          in_time = ap (λ s. is_queued_in_time s (steps ++ x ∷ ahead) (length steps) x) stream-is ∙ time-same (Some a.stream) a.stream o (steps ++ x ∷ ahead) (length steps) steps (length steps) refl (anchors-more a.stream steps (x ∷ ahead) goes.ended) ∙ hang.1;
          of_length = ap (λ s. is_of_length s x) stream-is ∙ t.2;
          transfer = ap (λ r. fits_transfer r x) runs-before ∙ fits (running tau (steps ++ ahead) (length steps)) refl;
          to_send = refl;
          lowest = refl;
          not_idle = ap (λ r. is_not_idle (streams_of actors) (steps ++ x ∷ ahead) (length steps) r (queued_at o)) runs-before
              ∙ idle-more (streams_of actors) steps (x ∷ ahead) (running tau (steps ++ ahead) (length steps)) (queued_at o) ∙ not_idle;
        }

    -- the joiner's queue step keeps the rules behind it
    module _ (b : Actor) (d : Contains actors b) (p : Offer) (next_p : next_offer until steps (length steps) b ≡ Some p) (e : ahead ≡ queue_step b.stream.id p ∷ []) where
      abbrev y : Step
      y = queue_step b.stream.id p

      not-it : (a.stream.id == b.stream.id) ≡ false
      not-it = elim (bool_cases (a.stream.id == b.stream.id)) [
        | inr f ↦ f
        | inl t ↦ (let f : (b.stream.id == a.stream.id) ≡ false = apart y e in let g = eq-true b.stream.id a.stream.id (sym (true-eq a.stream.id b.stream.id t)) in let z : true ≡ false = sym g ∙ f in absurd (cc))
      ]

      is-there : (r : Option (ℕ × ℕ)) → running tau (steps ++ ahead) (length steps) ≡ r → (v : ℕ × ℕ) × (running tau (steps ++ ahead) (length steps) ≡ Some v)
      is-there None q = (let z : [] ≡ queue_step b.stream.id p ∷ [] = sym (goes.clear q) ∙ e in absurd (cc))
      is-there (Some v) q = (v, q)

      behind : broken_by tau (streams_of actors) until ((steps ++ x ∷ []) ++ ahead) (length (steps ++ x ∷ [])) y ≡ None
      behind =
          let k = keeps tau (streams_of actors) until (steps ++ ahead) (length steps) y (goes.ahead_fine y e) in
          let v = is-there (running tau (steps ++ ahead) (length steps)) refl in
          let r = running-one tau (streams_of actors) until steps ahead ahead x between goes.fine in
          let n = length (steps ++ x ∷ []) in
          let s : steps ++ x ∷ [] ++ ahead ≡ steps ++ x ∷ ahead = one-more steps x ahead in
          let m = next-is until steps (length steps) b p next_p in
          let agree : AnchorsAgree b.stream ((steps ++ x ∷ []) ++ ahead) n (steps ++ ahead) (length steps) =
          λ v. anchors-more b.stream (steps ++ x ∷ []) ahead still-ended v ∙ anchors-kept b.stream steps x refl goes.ended v ∙ sym (anchors-more b.stream steps ahead goes.ended v) in
          keeps-none tau (streams_of actors) until ((steps ++ x ∷ []) ++ ahead) n y (record {
            order = order-more until (steps ++ x ∷ []) ahead y ∙ in-turn b p (not-after b d p next_p) m.1;
            known = k.known;
            period = ap (λ u. is_period_later (stream_of (streams_of actors) b.stream.id) u ((steps ++ x ∷ []) ++ ahead) n y)
                (last_event-more b.stream.id (steps ++ x ∷ []) ahead n (omega arith) ∙ ap (last_event b.stream.id (steps ++ x ∷ [])) (length-one steps x) ∙ last_event-here b.stream.id steps x []
                ∙ ap (λ w. cond w (Some o.event) (last_event b.stream.id steps (length steps))) not-it ∙ sym (last_event-more b.stream.id steps ahead (length steps) (omega arith)))
                ∙ period-same (stream_of (streams_of actors) b.stream.id) b.stream (last_event b.stream.id (steps ++ ahead) (length steps)) p ((steps ++ x ∷ []) ++ ahead) n (steps ++ ahead) (length steps) (there b d) agree ∙ k.period;
            in_time = time-same (stream_of (streams_of actors) b.stream.id) b.stream p ((steps ++ x ∷ []) ++ ahead) n (steps ++ ahead) (length steps) (there b d) agree ∙ k.in_time;
            of_length = k.of_length;
            transfer = ap (λ u. fits_transfer u y) r ∙ k.transfer;
            to_send = refl;
            lowest = refl;
            not_idle = ap (λ u. is_not_idle (streams_of actors) ((steps ++ x ∷ []) ++ ahead) n u (queued_at p)) (r ∙ v.1) ∙ runs-idle (streams_of actors) ((steps ++ x ∷ []) ++ ahead) n (queued_at p) v.0;
          })

    behind-any : (y : Step) → ahead ≡ y ∷ [] → broken_by tau (streams_of actors) until ((steps ++ x ∷ []) ++ ahead) (length (steps ++ x ∷ [])) y ≡ None
    behind-any y e = elim goes.sent [
      | inl n ↦ (let z : [] ≡ y ∷ [] = sym n ∙ e in absurd (cc))
      | inr w ↦ (let q : queue_step (w.0).stream.id (w.3).0 ∷ [] ≡ y ∷ [] = sym (w.3).2 ∙ e in
          let s : queue_step (w.0).stream.id (w.3).0 ≡ y = cc in
          subst (λ v. broken_by tau (streams_of actors) until ((steps ++ x ∷ []) ++ ahead) (length (steps ++ x ∷ [])) v ≡ None) s (behind w.0 w.1 (w.3).0 (w.3).1 (w.3).2))
    ]

    sent-still : (ahead ≡ []) ⊎ ((b : Actor) × Contains actors b × IsSentAhead (steps ++ x ∷ []) b × ((p : Offer) × (next_offer until (steps ++ x ∷ []) (length (steps ++ x ∷ [])) b ≡ Some p) × (ahead ≡ queue_step b.stream.id p ∷ [])))
    sent-still = elim goes.sent [
      | inl n ↦ inl n
      | inr w ↦ (let b = w.0 in
          let f = not-it b w.1 (w.3).0 (w.3).1 (w.3).2 in
          let q = count-kept (is_queue b.stream.id) steps x f in
          let s = count-kept (is_start b.stream.id) steps x refl in
          let l = w.2 in
          inr (b, w.1, omega (arith, q, s, l), ((w.3).0, next-stays until steps x b (w.3).0 f (w.3).1, (w.3).2)))
    ]

    pub queued_behind : Goes tau actors until (steps ++ x ∷ []) ahead
    queued_behind = queued ahead between (keeps-none tau (streams_of actors) until (steps ++ x ∷ ahead) (length steps) x queue-keeps) behind-any sent-still (λ e. e)
        (λ k. (let g = goes.started k in let q = count_to-one (is_queue k) steps x in omega (arith, g, q)))

  -- The instance of a joiner that was sent.
  pub queued_joiner : ahead ≡ x ∷ [] → Goes tau actors until (steps ++ x ∷ []) []
  queued_joiner e = queued [] (subst (λ t. FindsTheSame steps t (x ∷ [])) (sym e) (λ i at id l s v h. h))
      (subst (λ t. broken_by tau (streams_of actors) until (steps ++ t) (length steps) x ≡ None) e (goes.ahead_fine x e)) (λ y q. absurd (cc)) (inl refl) (λ q. refl)
      (λ k. (let g = subst (λ t. count_to (is_start k) steps (length steps) ≤ count_to (is_queue k) steps (length steps) + queued_ahead k t) e (goes.started k) in
      let q = count_to-one (is_queue k) steps x in
      let z = count_to-one (is_queue k) [] x in omega (arith, g, q, z)))
