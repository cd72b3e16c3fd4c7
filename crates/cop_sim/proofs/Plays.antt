-- A partial play that goes on is one, and where nothing is left to do it is the play.
use Rattle.std.proofs.Common.{rules, ◌≡◌, ℕ, ◌+◌, ◌-◌, ◌≤◌, ◌<◌, inl, inr, List, [], ◌∷◌, ◌++◌, length, drop, refl, sym, ◌∙◌, ap, subst, arith, suc, zero, true, false, nat_le}
use Rattle.std.specs.Prelude.{Option, None, Some, All, Contains}
use Rattle.std.specs.Option.{ForSome}
use Rattle.std.proofs.lemmas.List.Elements.{All-weaker, All-contains_itself}
use Rattle.cop_frame.specs.declared.rates.Rate.{Rate}
use Rattle.cop_frame.specs.Rate.{ticks_of}
use Rattle.cop_rta.specs.declared.streams.Stream.{Stream}
use Rattle.cop_rta.specs.Streams.{AreDistinct}
use Rattle.cop_bus.specs.declared.steps.Step.{Step}
use Rattle.cop_bus.specs.Trace.{is_queue, step_at, running, after, at_of, IsLegalTrace, now_of, last_of}
use Rattle.cop_bus.specs.Run.{IsObeying}
use Rattle.cop_bus.specs.Growing.{KeepTheRules}
use Rattle.cop_bus.specs.Judge.{is_in_order, not_before, fits_transfer, is_not_idle, broken_by, broken_at_end, at_step, first_broken_from, first_broken, is_unfinished}
use Rattle.cop_bus.proofs.Demand.{and-left, and-right, and-true}
use Rattle.cop_bus.proofs.Work.{true-le, le-true, lt-true}
use Rattle.cop_bus.proofs.Verdict.{keeps, drop-at, drop-all}
use Rattle.cop_bus.proofs.Found.{pass, or-left}
use Rattle.cop_bus.proofs.WholeTrace.{clean-legal}
use Rattle.cop_sim.specs.declared.behaviours.Offer.{Offer}
use Rattle.cop_sim.specs.Play.{Actor, streams_of, queued_at, queue_step, next_offer, IsPartialPlay, IsPlay, QueuesItsOffers}
use Rattle.cop_bus.proofs.Grows.{no-more}
use Rattle.cop_bus.proofs.Appended.{step_at-here, length-one, now-one}
use Rattle.cop_sim.proofs.Going.{keeps-none}
use Rattle.cop_sim.proofs.Kept.{at-cases, next-is}
use Rattle.cop_sim.specs.Going.{Goes}
use Rattle.cop_sim.proofs.Goes.{by-now}

-- a trace of which each step keeps the rules, and the end too
pub first-none : (tau : ℕ) (streams : List Stream) (until : ℕ) (steps : List Step) → ((i : ℕ) → i < length steps → broken_by tau streams until steps i (step_at steps i) ≡ None) →
    broken_at_end tau streams until steps ≡ None → first_broken tau streams until steps ≡ None
first-none tau streams until steps fine end = go (length steps) 0 (omega arith)
  where
    go : (n i : ℕ) → i + n ≡ length steps → first_broken_from tau streams until steps i (drop i steps) ≡ None
    go zero i e =
        let q : i ≡ length steps = omega arith in
        subst (λ m. first_broken_from tau streams until steps m (drop m steps) ≡ None) (sym q)
        (ap (first_broken_from tau streams until steps (length steps)) (drop-all steps) ∙ ap (λ o. at_step (length steps) o None) end)
    go (suc n) i e =
        let l : i < length steps = omega arith in
        ap (first_broken_from tau streams until steps i) (drop-at steps i l)
        ∙ ap (λ o. at_step i o (first_broken_from tau streams until steps (suc i) (drop (suc i) steps))) (fine i l)
        ∙ go n (suc i) (omega arith)

-- a step in order comes by any end that is not before it
pub order-by : (until sooner : ℕ) (steps : List Step) (i : ℕ) (x : Step) → at_of x ≤ sooner → is_in_order until steps i x ≡ true → is_in_order sooner steps i x ≡ true
order-by until sooner steps zero x l h = le-true (at_of x) sooner l
order-by until sooner steps (suc i) x l h = and-true (nat_le (at_of x) sooner) (not_before (step_at steps i) x) (le-true (at_of x) sooner l) (and-right (nat_le (at_of x) until) (not_before (step_at steps i) x) h)

-- steps that keep the rules do so with the last one's moment as the end
pub fine-by-now : (tau : ℕ) (streams : List Stream) (until : ℕ) (steps : List Step) → ((i : ℕ) → i < length steps → broken_by tau streams until steps i (step_at steps i) ≡ None) →
    (i : ℕ) → i < length steps → broken_by tau streams (now_of steps) steps i (step_at steps i) ≡ None
fine-by-now tau streams until steps fine i l =
    let k = keeps tau streams until steps i (step_at steps i) (fine i l) in
    let f : KeepTheRules tau streams until steps [] = λ j m. subst (λ t. broken_by tau streams until t j (step_at steps j) ≡ None) (sym (no-more steps)) (fine j m) in
    let b = by-now tau streams until steps [] f (length steps - suc i) i (omega arith) in
    keeps-none tau streams (now_of steps) steps i (step_at steps i) (record {
      order = order-by until (now_of steps) steps i (step_at steps i) b k.order;
      known = k.known;
      period = k.period;
      in_time = k.in_time;
      of_length = k.of_length;
      transfer = k.transfer;
      to_send = k.to_send;
      lowest = k.lowest;
      not_idle = k.not_idle;
    })

-- at the last step's moment the bus has not been idle
pub busy-now : (streams : List Stream) (steps : List Step) (r : Option (ℕ × ℕ)) → is_not_idle streams steps (length steps) r (now_of steps) ≡ true
busy-now streams steps r = go (length steps) refl r
  where
    go : (n : ℕ) → n ≡ length steps → (r : Option (ℕ × ℕ)) → is_not_idle streams steps n r (now_of steps) ≡ true
    go zero e r = refl
    go (suc n) e (Some r) = refl
    go (suc n) e None =
        let m : length steps - 1 ≡ n = omega arith in
        or-left (nat_le (now_of steps) (at_of (step_at steps n))) _ (le-true (now_of steps) (at_of (step_at steps n)) (subst (λ k. at_of (step_at steps k) ≤ at_of (step_at steps n)) (sym m) (omega arith)))

pub end-none : (tau : ℕ) (streams : List Stream) (until : ℕ) (steps : List Step) → is_unfinished until (running tau steps (length steps)) ≡ true →
    is_not_idle streams steps (length steps) (running tau steps (length steps)) until ≡ true → broken_at_end tau streams until steps ≡ None
end-none tau streams until steps u n = pass (is_unfinished until (running tau steps (length steps))) 65 _ u (pass (is_not_idle streams steps (length steps) (running tau steps (length steps)) until) 68 None n refl)

module _ (rate : Rate) (actors : List Actor) (distinct : AreDistinct (streams_of actors)) (until : ℕ) where
  each : (P : Actor → Type 0) → ((a : Actor) → Contains actors a → P a) → All P actors
  each P h = All-weaker (Contains actors) P h actors (All-contains_itself actors)

  module _ (steps ahead : List Step) (goes : Goes (ticks_of rate) actors until steps ahead) where
    abbrev tau : ℕ
    tau = ticks_of rate

    abbrev streams : List Stream
    streams = streams_of actors

    -- each step keeps the rules, what is ahead too
    module _ (y : Step) (e : ahead ≡ y ∷ []) where
      fine-behind : (i : ℕ) → i < length (steps ++ ahead) → broken_by tau streams until (steps ++ ahead) i (step_at (steps ++ ahead) i) ≡ None
      fine-behind i l =
          let c = at-cases steps y i (subst (λ t. i < length (steps ++ t)) e l) in
          elim c [
            | inl k ↦ ap (λ t. broken_by tau streams until (steps ++ ahead) i (step_at (steps ++ t) i)) e ∙ ap (broken_by tau streams until (steps ++ ahead) i) k.1 ∙ goes.fine i k.0
            | inr k ↦ ap (λ t. broken_by tau streams until (steps ++ ahead) i (step_at (steps ++ t) i)) e ∙ ap (broken_by tau streams until (steps ++ ahead) i) k.1
                ∙ ap (λ n. broken_by tau streams until (steps ++ ahead) n y) k.0 ∙ goes.ahead_fine y e
          ]

      unfinished-behind : (r : Option (ℕ × ℕ)) → running tau (steps ++ ahead) (length steps) ≡ r → fits_transfer r y ≡ true → (o : Offer) (id : ℕ) → y ≡ queue_step id o → is_unfinished (now_of (steps ++ ahead)) (running tau (steps ++ ahead) (length (steps ++ ahead))) ≡ true
      unfinished-behind r q f o id s =
          let n : now_of (steps ++ ahead) ≡ at_of y = ap (λ t. now_of (steps ++ t)) e ∙ now-one steps y in
          let m : length (steps ++ ahead) ≡ suc (length steps) = ap (λ t. length (steps ++ t)) e ∙ length-one steps y in
          let g : running tau (steps ++ ahead) (length (steps ++ ahead)) ≡ r = ap (running tau (steps ++ ahead)) m
          ∙ ap (λ t. after tau (steps ++ ahead) (length steps) (step_at (steps ++ t) (length steps)) (running tau (steps ++ ahead) (length steps))) e
          ∙ ap (λ t. after tau (steps ++ ahead) (length steps) t (running tau (steps ++ ahead) (length steps))) (step_at-here steps y [] ∙ s) ∙ q in
          ap (λ t. is_unfinished t (running tau (steps ++ ahead) (length (steps ++ ahead)))) n ∙ ap (is_unfinished (at_of y)) g ∙ ap (λ t. is_unfinished (at_of t) r) s ∙ go r (sym (ap (fits_transfer r) s) ∙ f)
        where
          go : (r : Option (ℕ × ℕ)) → fits_transfer r (queue_step id o) ≡ true → is_unfinished (queued_at o) r ≡ true
          go None f = refl
          go (Some r) f = f

    fine-alone : ahead ≡ [] → (i : ℕ) → i < length steps → broken_by tau streams until steps i (step_at steps i) ≡ None
    fine-alone e i l = subst (λ t. broken_by tau streams until t i (step_at steps i) ≡ None) (ap (λ t. steps ++ t) e ∙ no-more steps) (goes.fine i l)

    runs-alone : ahead ≡ [] → running tau (steps ++ ahead) (length steps) ≡ running tau steps (length steps)
    runs-alone e = ap (λ t. running tau t (length steps)) (ap (λ t. steps ++ t) e ∙ no-more steps)

    unfinished-alone : (e : ahead ≡ []) (r : Option (ℕ × ℕ)) → running tau steps (length steps) ≡ r → is_unfinished (now_of steps) r ≡ true
    unfinished-alone e None q = refl
    unfinished-alone e (Some r) q = lt-true (now_of steps) r.1 (goes.unfinished r (runs-alone e ∙ q))

    legal-trace : IsLegalTrace tau streams (now_of (steps ++ ahead)) (steps ++ ahead)
    legal-trace = (clean-legal rate streams (now_of (steps ++ ahead)) (steps ++ ahead) distinct).0 (elim goes.sent [
      | inl e ↦ subst (λ t. first_broken tau streams (now_of t) t ≡ None) (sym (ap (λ t. steps ++ t) e ∙ no-more steps))
          (first-none tau streams (now_of steps) steps (fine-by-now tau streams until steps (fine-alone e))
          (end-none tau streams (now_of steps) steps (unfinished-alone e (running tau steps (length steps)) refl) (busy-now streams steps (running tau steps (length steps)))))
      | inr w ↦ (let y = queue_step (w.0).stream.id (w.3).0 in
          let k = keeps tau streams until (steps ++ ahead) (length steps) y (goes.ahead_fine y (w.3).2) in
          first-none tau streams (now_of (steps ++ ahead)) (steps ++ ahead) (fine-by-now tau streams until (steps ++ ahead) (fine-behind y (w.3).2))
          (end-none tau streams (now_of (steps ++ ahead)) (steps ++ ahead)
          (unfinished-behind y (w.3).2 (running tau (steps ++ ahead) (length steps)) refl k.transfer (w.3).0 (w.0).stream.id refl)
          (busy-now streams (steps ++ ahead) (running tau (steps ++ ahead) (length (steps ++ ahead))))))
    ])

    now-within : now_of steps ≤ until
    now-within = go (length steps) refl
      where
        none : (steps : List Step) → zero ≡ length steps → now_of steps ≤ until
        none [] e = omega arith
        none (x ∷ xs) e = absurd (omega arith)

        go : (n : ℕ) → n ≡ length steps → now_of steps ≤ until
        go zero e = none steps e
        go (suc n) e =
            let m : length steps - 1 ≡ n = omega arith in
            let k = keeps tau streams until (steps ++ ahead) n (step_at steps n) (goes.fine n (omega arith)) in
            subst (λ k. at_of (step_at steps k) ≤ until) (sym m) (first n (step_at steps n) k.order)
          where
            first : (n : ℕ) (x : Step) → is_in_order until (steps ++ ahead) n x ≡ true → at_of x ≤ until
            first zero x h = true-le (at_of x) until h
            first (suc n) x h = true-le (at_of x) until (and-left (nat_le (at_of x) until) _ h)

    pub partial : IsPartialPlay tau actors until steps
    partial = record {
      within = now-within;
      ahead = ahead;
      is_ahead = elim goes.sent [ inl e ↦ inl e | inr w ↦ (let c = w.1 in inr (c.0, w.0, c.1, c.2, (w.2, w.3))) ];
      legal = legal-trace;
      offers = each (QueuesItsOffers steps) goes.offers;
      none_left_out = each (λ a. is_queue a.stream.id (last_of steps) ≡ false → ForSome (next_offer until steps (length steps) a) (λ o. now_of steps ≤ queued_at o)) (λ a c f o e. goes.none_left_out a c f o e);
      rising = goes.rising;
      none_at_end = goes.none_at_end;
      lowest = goes.lowest;
    }

  pub played : (steps : List Step) → Goes (ticks_of rate) actors until steps [] → ((a : Actor) → Contains actors a → next_offer until steps (length steps) a ≡ None) →
      is_unfinished until (running (ticks_of rate) steps (length steps)) ≡ true → is_not_idle (streams_of actors) steps (length steps) (running (ticks_of rate) steps (length steps)) until ≡ true →
      IsPlay (ticks_of rate) actors until steps
  played steps goes done unfinished busy = record {
    legal = (clean-legal rate (streams_of actors) until steps distinct).0 (first-none (ticks_of rate) (streams_of actors) until steps (fine-alone steps [] goes refl) (end-none (ticks_of rate) (streams_of actors) until steps unfinished busy));
    offers = each (QueuesItsOffers steps) goes.offers;
    all_queued = each (λ a. next_offer until steps (length steps) a ≡ None) done;
    rising = goes.rising;
    none_at_end = goes.none_at_end;
    lowest = goes.lowest;
  }

-- before any step
pub begins : (tau : ℕ) (actors : List Actor) (until : ℕ) → Goes tau actors until [] []
begins tau actors until = record {
  fine = λ i l. absurd (omega arith);
  ahead_fine = λ y e. absurd (cc);
  sent = inl refl;
  clear = λ e. refl;
  started = λ k. omega arith;
  unfinished = λ r e. absurd (cc);
  known = λ r e. absurd (cc);
  offers = λ a c i at event frame l. absurd (omega arith);
  ended = omega arith;
  none_left_out = λ a c f o e. omega arith;
  next = λ a c o e w. record {
    in_turn = le-true (queued_at o) until (next-is until [] 0 a o e).1;
    obeying = w;
    rising = λ i id event frame l. absurd (omega arith);
  };
  rising = λ i j at id id' event event' frame frame' l m. absurd (omega arith);
  none_at_end = λ i z id l. absurd (omega arith);
  lowest = λ i z id l. absurd (omega arith);
}

-- no step at all is a partial play of any actors
pub nothing-yet : (tau : ℕ) (actors : List Actor) (until : ℕ) → IsPartialPlay tau actors until []
nothing-yet tau actors until = record {
  within = omega arith;
  ahead = [];
  is_ahead = inl refl;
  legal = record {
    ordered = λ i j l m. absurd (omega arith);
    by_end = λ i l. absurd (omega arith);
    no_more_starts = λ id. omega arith;
    ends_are = λ i at id l. absurd (omega arith);
    each_end = search rules;
    ends_once = λ i j at at' id id' l m. absurd (omega arith);
    legal = record { known = search rules; in_order = search rules; one_at_a_time = search rules; asked_for = search rules; joined = search rules; by_priority = search rules; never_idle = λ x l. search rules };
    obeying = all-of (streams_of actors);
  };
  offers = all (QueuesItsOffers []) (λ a i at event frame l. absurd (omega arith)) actors;
  none_left_out = all (λ a. is_queue a.stream.id (last_of []) ≡ false → ForSome (next_offer until [] 0 a) (λ o. 0 ≤ queued_at o)) (λ a f o e. omega arith) actors;
  rising = λ i j at id id' event event' frame frame' l m. absurd (omega arith);
  none_at_end = λ i z id l. absurd (omega arith);
  lowest = λ i z id l. absurd (omega arith);
}
  where
    all : (P : Actor → Type 0) → ((a : Actor) → P a) → (xs : List Actor) → All P xs
    all P h xs = All-weaker (Contains xs) P (λ a c. h a) xs (All-contains_itself xs)

    all-of : (ks : List Stream) → All (IsObeying tau (now_of []) []) ks
    all-of ks = All-weaker (Contains ks) (IsObeying tau (now_of []) []) (λ k c. record { in_time = search rules; in_order = search rules }) ks (All-contains_itself ks)
