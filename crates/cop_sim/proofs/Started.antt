-- A start of a play leaves a partial play that goes on.
use Rattle.std.proofs.Common.{◌≡◌, ℕ, ◌+◌, ◌-◌, ◌*◌, ◌≤◌, ◌<◌, ◌⊎◌, inl, inr, List, [], ◌∷◌, ◌++◌, length, refl, sym, ◌∙◌, ap, subst, arith, suc, zero, Bool, true, false, not, ◌&&◌, ◌||◌, nat_lt, nat_le}
use Rattle.std.specs.Prelude.{None, Some, is_some, All, Contains, ◌==◌}
use Rattle.std.proofs.lemmas.Bool.{cases_lt}
use Rattle.std.proofs.lemmas.List.Elements.{recursion_from_All}
use Rattle.std.specs.List.{AllByRecursion as Each}
use Rattle.cop_frame.proofs.LengthLemmas.{least_bits-least}
use Rattle.cop_rta.specs.declared.streams.Stream.{Stream}
use Rattle.cop_bus.specs.declared.steps.Step.{Step}
use Rattle.cop_bus.specs.declared.steps.Content.{Content}
use Rattle.cop_bus.specs.declared.steps.Step.TheVariants.{Queue, Start, End}
use Rattle.cop_bus.specs.Ends.{is_end}
use Rattle.cop_rta.specs.Test.{sync_id}
use Rattle.cop_bus.specs.Run.{least_bits, worst_bits}
use Rattle.cop_bus.specs.Trace.{is_queue, is_start, count_to, nth_that, step_at, running, at_of, rank_of, bits_of, now_of}
use Rattle.cop_bus.specs.Judge.{id_of, stream_of, last_event, is_in_order, not_before, is_period_later, is_queued_in_time, is_of_length, fits_transfer, is_not_idle, broken_by, any_waits, lower_waits, waits_after, is_soon_queued}
use Rattle.cop_bus.proofs.Demand.{and-left, and-true}
use Rattle.cop_bus.proofs.Work.{true-le, le-true, lt-true, true-lt, true-eq, eq-true}
use Rattle.cop_bus.proofs.StepLemmas.{bool_cases, nth_before, nth_that-at, queue_shape}
use Rattle.cop_bus.proofs.Verdict.{Keeps, keeps}
use Rattle.cop_bus.proofs.Found.{or-left, or-right}
use Rattle.cop_sim.specs.declared.behaviours.Offer.{Offer}
use Rattle.cop_sim.specs.Play.{Actor, streams_of, queued_at, queue_step, next_offer, IsSentAhead, Competes, obeys_after, queued_before}
use Rattle.cop_sim.specs.Cues.{cue_of, from_of}
use Rattle.cop_bus.proofs.Grows.{last_event-more, count_to-more, nth_that-more, any_waits-more, lower_waits-more}
use Rattle.cop_bus.proofs.Appended.{step_at-here, length-one, one-more, now-one, count_to-one, last_event-here}
use Rattle.cop_sim.proofs.Going.{FindsTheSame, finds-more, fine-one, running-kept, running-one, keeps-none, order-more, idle-more, start-period, start-time, start-length, runs-idle}
use Rattle.cop_sim.proofs.Cued.{EndQueued}
use Rattle.cop_sim.proofs.Marks.{AnchorsAgree, anchors-more, anchors-kept, period-same, time-same, obeys-is, hangs}
use Rattle.cop_sim.proofs.Kept.{at-cases, next-is, count-kept, count-raised, next-kept, next-stays, obeys-kept, offers-one, rising-one, starts-one, SendsLowestHere, lowest-one}
use Rattle.cop_sim.specs.Going.{IsNext, queued_ahead, Goes}
use Rattle.cop_sim.proofs.Goes.{by-now}

-- none with a lower identifier waits, if the lowest of those that compete is sent
pub lower-false : (tau until : ℕ) (steps : List Step) (i z id : ℕ) (actors : List Actor) → Each (λ a. Competes tau until steps i z a → id ≤ a.stream.id) actors → lower_waits steps i id (streams_of actors) ≡ false
lower-false tau until steps i z id [] h = refl
lower-false tau until steps i z id (a ∷ actors) h =
    ap (λ b. (nat_lt a.stream.id id && waits_after steps i a.stream.id) || b) (lower-false tau until steps i z id actors h.1)
    ∙ go (nat_lt a.stream.id id) refl (waits_after steps i a.stream.id) refl
  where
    go : (b : Bool) → nat_lt a.stream.id id ≡ b → (w : Bool) → waits_after steps i a.stream.id ≡ w → ((b && w) || false) ≡ false
    go true e true f = let l = true-lt a.stream.id id e in let g = h.0 (inl f) in absurd (omega arith)
    go true e false f = refl
    go false e true f = refl
    go false e false f = refl

pub rank-most : (x : Step) → nat_le (rank_of x) 2 ≡ true
rank-most (Queue id at event frame) = refl
rank-most (Start id at) = refl
rank-most (End id at) = refl

-- a transfer takes a bit time at least
pub takes-a-bit : (bits tau : ℕ) → 1 ≤ bits → tau ≤ bits * tau
takes-a-bit zero tau l = absurd (omega arith)
takes-a-bit (suc n) tau l = omega arith

pub has-bits : (k : Stream) (at id event : ℕ) (frame : Content) → is_of_length (Some k) (Queue id at event frame) ≡ true → 1 ≤ frame.bits
has-bits k at id event frame h =
    let l = true-le (least_bits k.bytes) frame.bits (and-left (nat_le (least_bits k.bytes) frame.bits) (nat_le frame.bits (worst_bits k.bytes)) (and-left (nat_le (least_bits k.bytes) frame.bits && nat_le frame.bits (worst_bits k.bytes)) (frame.len == k.bytes) h)) in
    omega (arith, l, least_bits-least k.bytes)

module _ (tau : ℕ) (pos : 1 ≤ tau) (actors : List Actor) (until : ℕ) (there : (a : Actor) → Contains actors a → stream_of (streams_of actors) a.stream.id ≡ Some a.stream)
    (steps : List Step) (goes : Goes tau actors until steps []) (z : ℕ) (now : now_of steps ≡ z) (early : z < until) (idle : running tau (steps ++ []) (length steps) ≡ None)
    (some : any_waits steps (length steps) (streams_of actors) ≡ true) (later : (a : Actor) → Contains actors a → (o : Offer) → next_offer until steps (length steps) a ≡ Some o → z < queued_at o)
    (a : Actor) (c : Contains actors a) (competes : Competes tau until steps (length steps) z a) (lowest : All (λ b. Competes tau until steps (length steps) z b → a.stream.id ≤ b.stream.id) actors) where
  abbrev id : ℕ
  id = a.stream.id

  abbrev x : Step
  x = Start id z

  in-order : (n : ℕ) → n ≡ length steps → is_in_order until steps n x ≡ true
  in-order zero e = le-true z until (omega arith)
  in-order (suc n) e =
      let m : length steps - 1 ≡ n = omega arith in
      let q : at_of (step_at steps n) ≡ z = ap (λ k. at_of (step_at steps k)) (sym m) ∙ now in
      and-true (nat_le z until) (not_before (step_at steps n) x) (le-true z until (omega arith))
      (or-right (nat_lt (at_of (step_at steps n)) z) _ (and-true (at_of (step_at steps n) == z) (nat_le (rank_of (step_at steps n)) 2) (eq-true (at_of (step_at steps n)) z q) (rank-most (step_at steps n))))

  not-idle : (n : ℕ) → n ≡ length steps → is_not_idle (streams_of actors) steps n None z ≡ true
  not-idle zero e = refl
  not-idle (suc n) e =
      let m : length steps - 1 ≡ n = omega arith in
      let q : at_of (step_at steps n) ≡ z = ap (λ k. at_of (step_at steps k)) (sym m) ∙ now in
      or-left (nat_le z (at_of (step_at steps n))) _ (le-true z (at_of (step_at steps n)) (omega arith))

  -- what comes after the start
  next-after : (b : Actor) → Contains actors b → (p : Offer) → next_offer until (steps ++ x ∷ []) (length (steps ++ x ∷ [])) b ≡ Some p →
      obeys_after (steps ++ x ∷ []) (length (steps ++ x ∷ [])) b.stream p ≡ true → IsNext until (steps ++ x ∷ []) b p
  next-after b d p q w0 =
      let h = sym (next-kept until steps x b refl refl goes.ended) ∙ q in
      let l = later b d p h in
      let m = (next-is until steps (length steps) b p h).1 in
      record {
        in_turn = ap (λ i. is_in_order until (steps ++ x ∷ []) i (queue_step b.stream.id p)) (length-one steps x)
            ∙ ap (λ y. nat_le (queued_at p) until && not_before y (queue_step b.stream.id p)) (step_at-here steps x [])
            ∙ and-true (nat_le (queued_at p) until) (not_before x (queue_step b.stream.id p)) (le-true (queued_at p) until m) (or-left (nat_lt z (queued_at p)) _ (lt-true z (queued_at p) l));
        obeying = w0;
        rising = λ i k event frame j e. (elim (at-cases steps x i j) [
          | inl w ↦ (goes.next b d p h (sym (obeys-kept steps x b.stream p refl refl goes.ended) ∙ w0)).rising i k event frame w.0 (sym w.1 ∙ e)
          | inr w ↦ (let y : Start id z ≡ Queue k (queued_at p) event frame = sym w.1 ∙ e in absurd (cc))
        ]);
      }

  still-ended : EndQueued (steps ++ x ∷ [])
  still-ended = let n = count-kept (is_end sync_id) steps x refl in let q = count-kept (is_queue sync_id) steps x refl in let few = goes.ended in omega (arith, n, q, few)

  -- with what is ahead then, and the instance that is sent
  module _ (more : List Step) (w : Step) (found : nth_that (is_queue id) (count_to (is_start id) steps (length steps)) (steps ++ x ∷ more) ≡ Some w) (soon : at_of w < z + tau) (bits : 1 ≤ bits_of (Some w)) where
    look : FindsTheSame steps [] (x ∷ more)
    look = finds-more steps (x ∷ more)

    found-there : nth_that (is_queue id) (count_to (is_start id) (steps ++ x ∷ more) (length steps)) (steps ++ x ∷ more) ≡ Some w
    found-there = ap (λ n. nth_that (is_queue id) n (steps ++ x ∷ more)) (count_to-more (is_start id) steps (x ∷ more) (length steps) (omega arith)) ∙ found

    runs-before : running tau (steps ++ x ∷ more) (length steps) ≡ None
    runs-before = running-kept tau (streams_of actors) until steps [] (x ∷ more) look goes.fine ∙ idle

    start-keeps : Keeps tau (streams_of actors) until (steps ++ x ∷ more) (length steps) x
    start-keeps = record {
      order = order-more until steps (x ∷ more) x ∙ in-order (length steps) refl;
      known = ap is_some (there a c);
      period = start-period (stream_of (streams_of actors) id) (last_event id (steps ++ x ∷ more) (length steps)) (steps ++ x ∷ more) (length steps) z id;
      in_time = start-time (stream_of (streams_of actors) id) (steps ++ x ∷ more) (length steps) z id;
      of_length = start-length (stream_of (streams_of actors) id) z id;
      transfer = ap (λ r. fits_transfer r x) runs-before;
      to_send = and-true (any_waits (steps ++ x ∷ more) (length steps) (streams_of actors)) (is_soon_queued tau z (nth_that (is_queue id) (count_to (is_start id) (steps ++ x ∷ more) (length steps)) (steps ++ x ∷ more)))
          (any_waits-more steps (x ∷ more) (length steps) (streams_of actors) (omega arith) ∙ some)
          (ap (is_soon_queued tau z) found-there ∙ lt-true (at_of w) (z + tau) soon);
      lowest = ap not (lower_waits-more steps (x ∷ more) (length steps) id (streams_of actors) (omega arith)
          ∙ lower-false tau until steps (length steps) z id actors (recursion_from_All (λ b. Competes tau until steps (length steps) z b → id ≤ b.stream.id) actors lowest));
      not_idle = ap (λ r. is_not_idle (streams_of actors) (steps ++ x ∷ more) (length steps) r z) runs-before ∙ idle-more (streams_of actors) steps (x ∷ more) None z ∙ not-idle (length steps) refl;
    }

    pub runs-after : running tau ((steps ++ x ∷ []) ++ more) (length (steps ++ x ∷ [])) ≡ Some (id, z + bits_of (Some w) * tau)
    runs-after = running-one tau (streams_of actors) until steps [] more x look goes.fine ∙ ap (λ o. Some (id, z + bits_of o * tau)) found-there

    pub started : ((y : Step) → more ≡ y ∷ [] → broken_by tau (streams_of actors) until ((steps ++ x ∷ []) ++ more) (length (steps ++ x ∷ [])) y ≡ None) →
        ((more ≡ []) ⊎ ((b : Actor) × Contains actors b × IsSentAhead (steps ++ x ∷ []) b × ((p : Offer) × (next_offer until (steps ++ x ∷ []) (length (steps ++ x ∷ [])) b ≡ Some p) × (more ≡ queue_step b.stream.id p ∷ [])))) →
        ((k : ℕ) → count_to (is_start k) (steps ++ x ∷ []) (length (steps ++ x ∷ [])) ≤ count_to (is_queue k) steps (length steps) + queued_ahead k more) →
        Goes tau actors until (steps ++ x ∷ []) more
    started more-fine sent counts = record {
      fine = fine-one tau (streams_of actors) until steps [] more x look goes.fine (keeps-none tau (streams_of actors) until (steps ++ x ∷ more) (length steps) x start-keeps);
      ahead_fine = more-fine;
      sent = sent;
      clear = λ r. (let e : Some (id, z + bits_of (Some w) * tau) ≡ None = sym runs-after ∙ r in absurd (cc));
      started = λ k. (let q = count-kept (is_queue k) steps x refl in let g = counts k in omega (arith, q, g));
      unfinished = λ r q. (let e : Some (id, z + bits_of (Some w) * tau) ≡ Some r = sym runs-after ∙ q in
          let f : r.1 ≡ z + bits_of (Some w) * tau = cc in let t = takes-a-bit (bits_of (Some w)) tau bits in let n = now-one steps x in omega (arith, f, t, n, pos));
      known = λ r q. (let e : Some (id, z + bits_of (Some w) * tau) ≡ Some r = sym runs-after ∙ q in let f : id ≡ r.0 = cc in
          subst (λ k. is_some (stream_of (streams_of actors) k) ≡ true) f (ap is_some (there a c)));
      offers = λ b d. offers-one until steps x b (goes.offers b d) (λ t. absurd (cc));
      ended = still-ended;
      next = next-after;
      none_left_out = λ b d f p q. (let l = later b d p (sym (next-kept until steps x b refl refl goes.ended) ∙ q) in let n = now-one steps x in omega (arith, l, n));
      rising = rising-one steps x goes.rising (λ i at k k' event event' frame frame' l q p. absurd (cc));
      none_at_end = starts-one until steps x goes.none_at_end (λ y k p. (let e : z ≡ y = cc in omega (arith, e, early)));
      lowest = lowest-one tau actors until steps x goes.lowest (λ y k p. (let e : z ≡ y = cc in let f : id ≡ k = cc in subst (λ m. SendsLowestHere tau actors until steps m k) e (subst (λ m. SendsLowestHere tau actors until steps z m) f ((c.0, a, c.1, c.2, (refl, competes)), lowest))));
    }

  -- An instance that waits is sent.
  pub started_waiting : waits_after steps (length steps) id ≡ true → Goes tau actors until (steps ++ x ∷ []) []
  started_waiting waits =
      let l = true-lt (count_to (is_start id) steps (length steps)) (count_to (is_queue id) steps (length steps)) waits in
      let n = nth_before (is_queue id) steps (length steps) (count_to (is_start id) steps (length steps)) l in
      let q = queue_shape id (step_at steps n.0) n.3 in
      let f = nth_that-at (is_queue id) steps n.0 n.2 n.3 in
      let k = keeps tau (streams_of actors) until (steps ++ []) n.0 (step_at steps n.0) (goes.fine n.0 n.2) in
      let m = by-now tau (streams_of actors) until steps [] goes.fine (length steps - suc n.0) n.0 (let h = n.2 in omega arith) in
      let b : is_of_length (Some a.stream) (Queue id q.0 q.1 q.2) ≡ true =
      sym (ap (λ s. is_of_length s (Queue id q.0 q.1 q.2)) (there a c)) ∙ sym (ap (λ y. is_of_length (stream_of (streams_of actors) (id_of y)) y) q.3) ∙ k.of_length in
      started [] (step_at steps n.0) (nth_that-more (is_queue id) (count_to (is_start id) steps (length steps)) steps (x ∷ []) (step_at steps n.0) (ap (λ j. nth_that (is_queue id) j steps) (sym n.4) ∙ f))
      (omega (arith, m, now, pos)) (subst (λ y. 1 ≤ bits_of (Some y)) (sym q.3) (has-bits a.stream q.0 id q.1 q.2 b))
      (λ y e. absurd (cc)) (inl refl)
      (λ k. elim (bool_cases (id == k)) [
        | inr g ↦ (let s = count-kept (is_start k) steps x g in let h = goes.started k in omega (arith, s, h))
        | inl g ↦ (let s = count-raised (is_start k) steps x g in let e = true-eq id k g in
            let r = subst (λ j. count_to (is_start j) steps (length steps) < count_to (is_queue j) steps (length steps)) e l in omega (arith, s, r))
      ])

  -- A joiner is sent: its queue step is still to come.
  module _ (o : Offer) (is_next : next_offer until steps (length steps) a ≡ Some o) (obeying : obeys_after steps (length steps) a.stream o ≡ true) (none_waits : waits_after steps (length steps) id ≡ false) (soon : queued_at o < z + tau) where
    abbrev y : Step
    y = queue_step id o

    of-length : is_of_length (Some a.stream) y ≡ true
    of-length = (obeys-is a.stream (queued_before id steps (length steps)) (from_of (cue_of steps (length steps) a.stream) o) o obeying).2

    hang : (is_period_later (Some a.stream) (last_event id steps (length steps)) steps (length steps) y ≡ true) × (is_queued_in_time (Some a.stream) steps (length steps) y ≡ true)
    hang = hangs tau (streams_of actors) until steps [] goes.fine goes.ended a (goes.offers a c) o (next-is until steps (length steps) a o is_next).0 obeying

    all-sent : count_to (is_start id) steps (length steps) ≡ count_to (is_queue id) steps (length steps)
    all-sent = elim (cases_lt (count_to (is_start id) steps (length steps)) (count_to (is_queue id) steps (length steps))) [
      | inl l ↦ (let t : true ≡ false = sym (lt-true (count_to (is_start id) steps (length steps)) (count_to (is_queue id) steps (length steps)) l) ∙ none_waits in absurd (cc))
      | inr l ↦ (let h = goes.started id in omega (arith, l, h))
    ]

    is-it : is_queue id y ≡ true
    is-it = eq-true id id refl

    counted : count_to (is_queue id) ((steps ++ x ∷ []) ++ y ∷ []) (length (steps ++ x ∷ [])) ≡ count_to (is_queue id) steps (length steps)
    counted = count_to-more (is_queue id) (steps ++ x ∷ []) (y ∷ []) (length (steps ++ x ∷ [])) (omega arith) ∙ count-kept (is_queue id) steps x refl

    pub found : nth_that (is_queue id) (count_to (is_start id) steps (length steps)) (steps ++ x ∷ y ∷ []) ≡ Some y
    found =
        let l = length-one (steps ++ x ∷ []) y in
        let s = step_at-here (steps ++ x ∷ []) y [] in
        let f = nth_that-at (is_queue id) ((steps ++ x ∷ []) ++ y ∷ []) (length (steps ++ x ∷ [])) (omega (arith, l)) (ap (is_queue id) s ∙ is-it) in
        subst (λ t. nth_that (is_queue id) (count_to (is_start id) steps (length steps)) t ≡ Some y) (one-more steps x (y ∷ []))
        (ap (λ j. nth_that (is_queue id) j ((steps ++ x ∷ []) ++ y ∷ [])) (all-sent ∙ sym counted) ∙ f ∙ ap Some s)

    pub long : 1 ≤ o.frame.bits
    long = has-bits a.stream (queued_at o) id o.event o.frame of-length

    agree : AnchorsAgree a.stream ((steps ++ x ∷ []) ++ y ∷ []) (length (steps ++ x ∷ [])) steps (length steps)
    agree v = anchors-more a.stream (steps ++ x ∷ []) (y ∷ []) still-ended v ∙ anchors-kept a.stream steps x refl goes.ended v

    behind : broken_by tau (streams_of actors) until ((steps ++ x ∷ []) ++ y ∷ []) (length (steps ++ x ∷ [])) y ≡ None
    behind =
        let n = length (steps ++ x ∷ []) in
        let r = runs-after (y ∷ []) y found soon long in
        let h = next-stays until steps x a o refl is_next in
        let i = next-after a c o h (obeys-kept steps x a.stream o refl refl goes.ended ∙ obeying) in
        let b = takes-a-bit o.frame.bits tau long in
        keeps-none tau (streams_of actors) until ((steps ++ x ∷ []) ++ y ∷ []) n y (record {
          order = order-more until (steps ++ x ∷ []) (y ∷ []) y ∙ i.in_turn;
          known = ap is_some (there a c);
          period = ap (λ s. is_period_later s (last_event id ((steps ++ x ∷ []) ++ y ∷ []) n) ((steps ++ x ∷ []) ++ y ∷ []) n y) (there a c)
              ∙ ap (λ v. is_period_later (Some a.stream) v ((steps ++ x ∷ []) ++ y ∷ []) n y) (last_event-more id (steps ++ x ∷ []) (y ∷ []) n (omega arith) ∙ ap (last_event id (steps ++ x ∷ [])) (length-one steps x) ∙ last_event-here id steps x [])
              ∙ period-same (Some a.stream) a.stream (last_event id steps (length steps)) o ((steps ++ x ∷ []) ++ y ∷ []) n steps (length steps) refl agree ∙ hang.0;
          in_time = ap (λ s. is_queued_in_time s ((steps ++ x ∷ []) ++ y ∷ []) n y) (there a c) ∙ time-same (Some a.stream) a.stream o ((steps ++ x ∷ []) ++ y ∷ []) n steps (length steps) refl agree ∙ hang.1;
          of_length = ap (λ s. is_of_length s y) (there a c) ∙ of-length;
          transfer = ap (λ u. fits_transfer u y) r ∙ lt-true (queued_at o) (z + o.frame.bits * tau) (omega (arith, soon, b));
          to_send = refl;
          lowest = refl;
          not_idle = ap (λ u. is_not_idle (streams_of actors) ((steps ++ x ∷ []) ++ y ∷ []) n u (queued_at o)) r ∙ runs-idle (streams_of actors) ((steps ++ x ∷ []) ++ y ∷ []) n (queued_at o) (id, z + o.frame.bits * tau);
        })

    pub started_joiner : Goes tau actors until (steps ++ x ∷ []) (y ∷ [])
    started_joiner = started (y ∷ []) y found soon long
        (λ v e. (let q : y ≡ v = cc in subst (λ t. broken_by tau (streams_of actors) until ((steps ++ x ∷ []) ++ y ∷ []) (length (steps ++ x ∷ [])) t ≡ None) q behind))
        (inr (a, c, (let q = count-kept (is_queue id) steps x refl in let s = count-raised (is_start id) steps x (eq-true id id refl) in let e = all-sent in omega (arith, q, s, e)), (o, next-stays until steps x a o refl is_next, refl)))
        (λ k. elim (bool_cases (id == k)) [
          | inr g ↦ (let s = count-kept (is_start k) steps x g in let h = goes.started k in omega (arith, s, h))
          | inl g ↦ (let s = count-raised (is_start k) steps x g in let e = true-eq id k g in
              let r = subst (λ j. count_to (is_start j) steps (length steps) ≡ count_to (is_queue j) steps (length steps)) e all-sent in
              let w = count_to-one (is_queue k) [] y in let v = count-raised (is_queue k) [] y g in omega (arith, s, r, v))
        ])
