-- The steps of a play, one after another: each leaves a partial play that goes on.
use Rattle.std.proofs.Common.{◌≡◌, ℕ, ◌+◌, ◌-◌, ◌≤◌, ◌<◌, ◌⊎◌, inl, inr, List, [], ◌∷◌, ◌++◌, length, refl, sym, ◌∙◌, ap, subst, arith, suc, zero, true, cond, length-append, ◌&&◌, ◌||◌, nat_lt, nat_le}
use Rattle.std.specs.Prelude.{None, Some, Contains, ◌==◌}
use Rattle.std.proofs.lemmas.Bool.{cases_lt}
use Rattle.cop_bus.specs.declared.steps.Step.{Step}
use Rattle.cop_bus.specs.declared.steps.Step.TheVariants.{Queue, End}
use Rattle.cop_bus.specs.Trace.{is_queue, is_start, count_to, step_at, running, at_of, rank_of, now_of}
use Rattle.cop_bus.specs.Judge.{stream_of, last_event, is_in_order, not_before, fits_transfer, is_not_idle}
use Rattle.cop_bus.proofs.Demand.{and-left, and-right, and-true}
use Rattle.cop_bus.proofs.Work.{true-le, le-true, lt-true, true-lt, true-eq, eq-true}
use Rattle.cop_bus.proofs.StepLemmas.{bool_cases}
use Rattle.cop_bus.proofs.Verdict.{Keeps, keeps}
use Rattle.cop_bus.proofs.Found.{or-left, or-right}
use Rattle.cop_sim.specs.declared.behaviours.Offer.{Offer}
use Rattle.cop_sim.specs.Play.{Actor, streams_of, queued_at, queue_step, next_offer, obeys_after}
use Rattle.cop_bus.proofs.Appended.{step_at-here, length-one, now-one}
use Rattle.cop_sim.specs.Going.{IsNext, queued_ahead, Goes}
use Rattle.cop_sim.proofs.Going.{FindsTheSame, finds-more, fine-one, running-kept, running-one, keeps-none, order-more, end-period, end-time, end-length, runs-idle}
use Rattle.cop_sim.proofs.Kept.{at-cases, next-is, count-kept, count-raised, next-at-end, offers-one, rising-one, starts-one, lowest-one}
use Rattle.cop_sim.proofs.Cued.{EndQueued}
use Rattle.cop_rta.specs.declared.streams.Stream.{Stream}
use Rattle.cop_rta.specs.Test.{sync_id}
use Rattle.cop_bus.specs.Ends.{is_end, runs_of}
use Rattle.cop_bus.specs.Growing.{KeepTheRules}
use Rattle.cop_bus.proofs.Accepts.{fits-start, fits-end}
use Rattle.cop_bus.proofs.Balanced.{balance_all}
use Rattle.cop_bus.proofs.Grows.{step_at-more, count_to-more}

pub not-before : (y x : Step) → not_before y x ≡ true → at_of y ≤ at_of x
not-before y x h = elim (bool_cases (nat_lt (at_of y) (at_of x))) [
  | inl t ↦ (let l = true-lt (at_of y) (at_of x) t in omega arith)
  | inr f ↦ (let g : ((at_of y == at_of x) && nat_le (rank_of y) (rank_of x)) ≡ true = sym (ap (λ b. b || ((at_of y == at_of x) && nat_le (rank_of y) (rank_of x))) f) ∙ h in
      let e = true-eq (at_of y) (at_of x) (and-left (at_of y == at_of x) _ g) in omega arith)
]

-- what a step that is in order says of the last step
pub order-end : (until : ℕ) (steps : List Step) (x : Step) → is_in_order until steps (length steps) x ≡ true → (at_of x ≤ until) × (now_of steps ≤ at_of x)
order-end until steps x h = go (length steps) refl h
  where
    go : (n : ℕ) → n ≡ length steps → is_in_order until steps n x ≡ true → (at_of x ≤ until) × (now_of steps ≤ at_of x)
    go zero e t = (true-le (at_of x) until t, none steps e)
      where
        none : (steps : List Step) → zero ≡ length steps → now_of steps ≤ at_of x
        none [] e = omega arith
        none (y ∷ ys) e = absurd (omega arith)
    go (suc n) e t =
        let m : length steps - 1 ≡ n = omega arith in
        let w = and-right (nat_le (at_of x) until) (not_before (step_at steps n) x) t in (
          true-le (at_of x) until (and-left (nat_le (at_of x) until) _ t),
          subst (λ k. at_of (step_at steps k) ≤ at_of x) (sym m) (not-before (step_at steps n) x w),
        )

-- no step comes after the last
pub by-now : (tau : ℕ) (streams : List Stream) (until : ℕ) (steps ahead : List Step) → KeepTheRules tau streams until steps ahead → (d i : ℕ) → i + suc d ≡ length steps → at_of (step_at steps i) ≤ now_of steps
by-now tau streams until steps ahead fine zero i e = let q : length steps - 1 ≡ i = omega arith in subst (λ n. at_of (step_at steps i) ≤ at_of (step_at steps n)) (sym q) (omega arith)
by-now tau streams until steps ahead fine (suc d) i e =
    let l : suc i < length steps = omega arith in
    let r = by-now tau streams until steps ahead fine d (suc i) (omega arith) in
    let k = keeps tau streams until (steps ++ ahead) (suc i) (step_at steps (suc i)) (fine (suc i) l) in
    let w = and-right (nat_le (at_of (step_at steps (suc i))) until) (not_before (step_at (steps ++ ahead) i) (step_at steps (suc i))) k.order in
    let m = not-before (step_at steps i) (step_at steps (suc i)) (sym (ap (λ y. not_before y (step_at steps (suc i))) (step_at-more steps ahead i (omega arith))) ∙ w) in
    omega (arith, r, m)

module _ (tau : ℕ) (pos : 1 ≤ tau) (actors : List Actor) (until : ℕ) (there : (a : Actor) → Contains actors a → stream_of (streams_of actors) a.stream.id ≡ Some a.stream) where
  -- The end of the transfer that runs.
  module _ (steps ahead : List Step) (goes : Goes tau actors until steps ahead) (id e : ℕ) (runs : running tau (steps ++ ahead) (length steps) ≡ Some (id, e)) (within : e ≤ until)
      (later : (a : Actor) → Contains actors a → (o : Offer) → next_offer until steps (length steps) a ≡ Some o → e ≤ queued_at o) where
    pub none_ahead : ahead ≡ []
    none_ahead = elim goes.sent [
      | inl n ↦ n
      | inr w ↦ (let y = queue_step (w.0).stream.id (w.3).0 in
          let l = later w.0 w.1 (w.3).0 (w.3).1 in
          let k = keeps tau (streams_of actors) until (steps ++ ahead) (length steps) y (goes.ahead_fine y (w.3).2) in
          let f : nat_lt (queued_at (w.3).0) e ≡ true = sym (ap (λ r. fits_transfer r y) runs) ∙ k.transfer in
          let m = true-lt (queued_at (w.3).0) e f in absurd (omega arith))
    ]

    abbrev x : Step
    x = End id e

    look : FindsTheSame steps ahead (x ∷ [])
    look = subst (λ t. FindsTheSame steps t (x ∷ [])) (sym none_ahead) (finds-more steps (x ∷ []))

    runs-here : running tau (steps ++ x ∷ []) (length steps) ≡ Some (id, e)
    runs-here = running-kept tau (streams_of actors) until steps ahead (x ∷ []) look goes.fine ∙ runs

    in-order : is_in_order until (steps ++ x ∷ []) (length steps) x ≡ true
    in-order = order-more until steps (x ∷ []) x ∙ go (length steps) refl
      where
        go : (n : ℕ) → n ≡ length steps → is_in_order until steps n x ≡ true
        go zero q = le-true e until within
        go (suc n) q =
            let m : length steps - 1 ≡ n = omega arith in
            let u = goes.unfinished (id, e) runs in
            and-true (nat_le e until) (not_before (step_at steps n) x) (le-true e until within)
            (or-left (nat_lt (at_of (step_at steps n)) e) _ (lt-true (at_of (step_at steps n)) e (subst (λ k. at_of (step_at steps k) < e) m u)))

    end-keeps : Keeps tau (streams_of actors) until (steps ++ x ∷ []) (length steps) x
    end-keeps = record {
      order = in-order;
      known = goes.known (id, e) runs;
      period = end-period (stream_of (streams_of actors) id) (last_event id (steps ++ x ∷ []) (length steps)) (steps ++ x ∷ []) (length steps) e id;
      in_time = end-time (stream_of (streams_of actors) id) (steps ++ x ∷ []) (length steps) e id;
      of_length = end-length (stream_of (streams_of actors) id) e id;
      transfer = ap (λ r. fits_transfer r x) runs-here ∙ and-true (id == id) (e == e) (eq-true id id refl) (eq-true e e refl);
      to_send = refl;
      lowest = refl;
      not_idle = ap (λ r. is_not_idle (streams_of actors) (steps ++ x ∷ []) (length steps) r e) runs-here ∙ runs-idle (streams_of actors) (steps ++ x ∷ []) (length steps) e (id, e);
    }

    pub runs-after : running tau ((steps ++ x ∷ []) ++ []) (length (steps ++ x ∷ [])) ≡ None
    runs-after = running-one tau (streams_of actors) until steps ahead [] x look goes.fine

    counts : (k : ℕ) → count_to (is_queue k) (steps ++ x ∷ []) (length (steps ++ x ∷ [])) ≡ count_to (is_queue k) steps (length steps)
    counts k = count-kept (is_queue k) steps x refl

    -- each offer comes at the end or later
    pub comes-later : (a : Actor) → Contains actors a → (o : Offer) → next_offer until (steps ++ x ∷ []) (length (steps ++ x ∷ [])) a ≡ Some o → e ≤ queued_at o
    comes-later a c o q = elim (next-at-end until steps id e a o goes.ended q) [ inl h ↦ later a c o h | inr l ↦ l ]

    after-end : (a : Actor) (o : Offer) → e ≤ queued_at o → queued_at o ≤ until → obeys_after (steps ++ x ∷ []) (length (steps ++ x ∷ [])) a.stream o ≡ true → IsNext until (steps ++ x ∷ []) a o
    after-end a o l m w = record {
      in_turn = ap (λ i. is_in_order until (steps ++ x ∷ []) i (queue_step a.stream.id o)) (length-one steps x)
          ∙ ap (λ y. nat_le (queued_at o) until && not_before y (queue_step a.stream.id o)) (step_at-here steps x [])
          ∙ and-true (nat_le (queued_at o) until) (not_before x (queue_step a.stream.id o)) (le-true (queued_at o) until m) (ordered (cases_lt e (queued_at o)));
      obeying = w;
      rising = λ i k event frame j q. (elim (at-cases steps x i j) [
        | inl c ↦ (let t = by-now tau (streams_of actors) until steps ahead goes.fine (length steps - suc i) i (let w = c.0 in omega arith) in
            let u = goes.unfinished (id, e) runs in
            let v : at_of (step_at steps i) ≡ queued_at o = ap at_of (sym c.1 ∙ q) in absurd (omega (arith, t, u, v, l)))
        | inr c ↦ (let z : End id e ≡ Queue k (queued_at o) event frame = sym c.1 ∙ q in absurd (cc))
      ]);
    }
      where
        ordered : (e < queued_at o) ⊎ (queued_at o ≤ e) → not_before x (queue_step a.stream.id o) ≡ true
        ordered c = elim c [
          | inl g ↦ or-left (nat_lt e (queued_at o)) _ (lt-true e (queued_at o) g)
          | inr g ↦ or-right (nat_lt e (queued_at o)) _ (and-true (e == queued_at o) (nat_le 0 1) (eq-true e (queued_at o) (omega arith)) refl)
        ]

    -- of the stream that ends one instance more was queued than had ended
    one-ends : suc (count_to (is_end id) steps (length steps)) ≤ count_to (is_queue id) steps (length steps)
    one-ends =
        let s = steps ++ ahead in
        let n = length steps in
        let inside : n ≤ length s = (let w = length-append steps ahead in omega arith) in
        let at-is = λ (i : ℕ) (l : i < n). step_at-more steps ahead i l in
        let kept = λ (i : ℕ) (l : i < n). keeps tau (streams_of actors) until s i (step_at steps i) (goes.fine i l) in
        let b = balance_all tau s n inside
        (λ i at k l q. fits-start at k (running tau s i) (sym (ap (fits_transfer (running tau s i)) (sym (at-is i l) ∙ q)) ∙ (kept i l).transfer))
        (λ i at k l q. fits-end at k (running tau s i) (sym (ap (fits_transfer (running tau s i)) (sym (at-is i l) ∙ q)) ∙ (kept i l).transfer)) id n (omega arith) in
        let r : runs_of id (running tau s n) ≡ 1 = ap (runs_of id) runs ∙ ap (λ v. cond {A = ℕ} v 1 0) (eq-true id id refl) in
        let starts = count_to-more (is_start id) steps ahead n (omega arith) in
        let ends = count_to-more (is_end id) steps ahead n (omega arith) in
        let g : count_to (is_start id) steps (length steps) ≤ count_to (is_queue id) steps (length steps) + 0 =
        subst (λ t. count_to (is_start id) steps (length steps) ≤ count_to (is_queue id) steps (length steps) + queued_ahead id t) none_ahead (goes.started id) in
        omega (arith, b, r, starts, ends, g)

    still-ended : EndQueued (steps ++ x ∷ [])
    still-ended =
        let q = counts sync_id in
        let few = goes.ended in
        elim (bool_cases (id == sync_id)) [
          | inr f ↦ (let n = count-kept (is_end sync_id) steps x f in omega (arith, q, n, few))
          | inl t ↦ (let n = count-raised (is_end sync_id) steps x t in
              let one = subst (λ k. suc (count_to (is_end k) steps (length steps)) ≤ count_to (is_queue k) steps (length steps)) (true-eq id sync_id t) one-ends in omega (arith, q, n, one))
        ]

    pub ended : Goes tau actors until (steps ++ x ∷ []) []
    ended = record {
      fine = fine-one tau (streams_of actors) until steps ahead [] x look goes.fine (keeps-none tau (streams_of actors) until (steps ++ x ∷ []) (length steps) x end-keeps);
      ahead_fine = λ y q. absurd (cc);
      sent = inl refl;
      clear = λ r. refl;
      started = λ k. (let q = counts k in let s = count-kept (is_start k) steps x refl in
          let g : count_to (is_start k) steps (length steps) ≤ count_to (is_queue k) steps (length steps) + 0 = subst (λ t. count_to (is_start k) steps (length steps) ≤ count_to (is_queue k) steps (length steps) + queued_ahead k t) none_ahead (goes.started k) in
          omega (arith, q, s, g));
      unfinished = λ r q. (let z : None ≡ Some r = sym runs-after ∙ q in absurd (cc));
      known = λ r q. (let z : None ≡ Some r = sym runs-after ∙ q in absurd (cc));
      offers = λ a c. offers-one until steps x a (goes.offers a c) (λ t. absurd (cc));
      ended = still-ended;
      next = λ a c o q w. after-end a o (comes-later a c o q) (next-is until (steps ++ x ∷ []) (length (steps ++ x ∷ [])) a o q).1 w;
      none_left_out = λ a c f o q. (let l = comes-later a c o q in let n = now-one steps x in omega (arith, l, n));
      rising = rising-one steps x goes.rising (λ i at k k' event event' frame frame' l q p. absurd (cc));
      none_at_end = starts-one until steps x goes.none_at_end (λ z k p. absurd (cc));
      lowest = lowest-one tau actors until steps x goes.lowest (λ z k p. absurd (cc));
    }
