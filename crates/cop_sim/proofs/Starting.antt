-- A transfer starts, and what is at hand after it.
use Rattle.std.proofs.Common.{◌≡◌, ℕ, ◌+◌, ◌*◌, ◌≤◌, ◌<◌, ◌⊎◌, inl, inr, List, [], ◌∷◌, ◌++◌, length, drop, get_or, slice_get, slice_set, Option, Some, None, Contains, All, Bool, true, false, refl, sym, ap, ◌∙◌, subst, arith, suc}
use Rattle.std.specs.Option.{ForSome}
use Rattle.std.proofs.lemmas.Bool.{cases_eq}
use Rattle.std.proofs.lemmas.List.{length-set}
use Rattle.std.proofs.lemmas.List.Elements.{All-weaker, All-contains_itself}
use Rattle.std.proofs.lemmas.Option.{slice_get_within}
use Rattle.cop_frame.specs.Rate.{ticks_of}
use Rattle.cop_bus.specs.declared.steps.Step.{Step}
use Rattle.cop_bus.specs.declared.steps.Step.TheVariants.{Start, Queue}
use Rattle.cop_bus.specs.declared.bus.Instance.{Instance}
use Rattle.cop_bus.specs.Trace.{is_queue, is_start, count_to, nth_that, running, bits_of}
use Rattle.cop_bus.specs.Judge.{stream_of, any_waits}
use Rattle.cop_bus.specs.Rings.{RingValue, any_in}
use Rattle.cop_bus.specs.Bus.{without_first}
use Rattle.cop_bus.proofs.Work.{eq-true}
use Rattle.cop_bus.proofs.Grows.{count_to-more, nth_that-more}
use Rattle.cop_bus.proofs.Appended.{now-one}
use Rattle.cop_plan.specs.Values.{PlanValue}
use Rattle.cop_sim.specs.declared.behaviours.Offer.{Offer}
use Rattle.cop_sim.specs.declared.due.Due.{Due}
use Rattle.cop_sim.specs.declared.choosing.Sent.{Sent}
use Rattle.cop_sim.specs.Play.{Actor, actors_of, streams_of, queued_at, queue_step, next_offer, Competes, Joins, IsSentAhead}
use Rattle.cop_sim.specs.Going.{Goes}
use Rattle.cop_sim.specs.Seats.{next_at, IsDueSoFar, IsChosen}
use Rattle.cop_sim.specs.Stages.{AtHand, starts, IsHeld, IsSeat, flipped, IsAwaited, IsAt, IsStarted}
use Rattle.cop_sim.specs.Syncs.{SyncsValue, AreNoted}
use Rattle.cop_sim.proofs.Cued.{cue-kept}
use Rattle.cop_sim.proofs.Noted.{noted-start}
use Rattle.cop_sim.proofs.Kept.{count-kept, count-raised}
use Rattle.cop_sim.proofs.Going.{finds-more, running-one}
use Rattle.cop_sim.proofs.Held.{held-waits, held-none, held-started, held-joiner}
use Rattle.cop_sim.proofs.Competing.{may-competes, competes-may}
use Rattle.cop_sim.proofs.Started as Started
use Rattle.cop_sim.proofs.Places as Places
use Rattle.cop_bus.proofs.AtPlace.{set-here, set-other, some-one, contained}
use Rattle.cop_sim.proofs.Places.{place-of}
use Rattle.cop_sim.proofs.Ending.{pos, flipped-none, none-awaited, seat-kept, seat-other}

none-first : (ys : List Instance) → slice_get ys 0 ≡ None → ys ≡ []
none-first [] e = refl
none-first (y ∷ ys) e = absurd (cc)

module _ {B : Type 0} (offer : B → ℕ → Option Offer) (agrees : B → ℕ → ℕ → Bool) (plan : PlanValue) (until : ℕ) (firsts bs : List B) (h : AtHand) (steps : List Step) (at : IsAt offer agrees plan until firsts bs h steps)
    (idle : h.running ≡ None) (waits : any_in h.rings ≡ true) (early : h.now < until) (due : Option Due) (first : IsDueSoFar plan.streams h.next (length h.next) due) (low : ForSome due (λ d. h.now < queued_at d.offer))
    (s : Sent) (chosen : IsChosen agrees plan.streams h.next h.rings bs (ticks_of plan.rate) h.now (length plan.streams) s) (a : Actor) (ea : slice_get (actors_of offer agrees plan.streams firsts) s.place ≡ Some a) where
  abbrev actors : List Actor
  actors = actors_of offer agrees plan.streams firsts

  abbrev tau : ℕ
  tau = ticks_of plan.rate

  abbrev x : Step
  x = Start a.stream.id h.now

  there : (b : Actor) → Contains actors b → stream_of (streams_of actors) b.stream.id ≡ Some b.stream
  there = Places.there offer agrees plan until firsts bs h steps at

  c : Contains actors a
  c = contained actors s.place a ea

  none-runs : running tau (steps ++ at.ahead) (length steps) ≡ None
  none-runs = flipped-none (running tau (steps ++ at.ahead) (length steps)) (sym at.runs ∙ idle)

  none-ahead : at.ahead ≡ []
  none-ahead = at.goes.clear none-runs

  goes : Goes tau actors until steps []
  goes = subst (λ t. Goes tau actors until steps t) none-ahead at.goes

  none-runs-alone : running tau (steps ++ []) (length steps) ≡ None
  none-runs-alone = subst (λ t. running tau (steps ++ t) (length steps) ≡ None) none-ahead none-runs

  some-waits : any_waits steps (length steps) (streams_of actors) ≡ true
  some-waits = sym (Places.any-same offer agrees plan until firsts bs h steps at) ∙ waits

  later : (b : Actor) → Contains actors b → (o : Offer) → next_offer until steps (length steps) b ≡ Some o → h.now < queued_at o
  later b d o e = let l = Places.after-due offer agrees plan until firsts bs h steps at due first (suc h.now) (λ v f. (let m = low v f in omega (arith, m))) b d o e in omega (arith, l)

  abbrev seat : (b : B) × (r : RingValue) × (slice_get bs s.place ≡ Some b) × (slice_get h.rings s.place ≡ Some r) × IsSeat offer agrees until steps a b (next_at h.next s.place) r (get_or h.queued s.place 0)
  seat = Places.seat-of offer agrees plan until firsts bs h steps at s.place a ea

  pub its : s.id ≡ a.stream.id
  its = sym chosen.its ∙ Places.id-of offer agrees plan until firsts bs h steps at s.place a ea

  competes : Competes tau until steps (length steps) h.now a
  competes = may-competes tau until steps h.now a seat.1 (agrees seat.0) (λ u. seat.4.same h.now u) (next_at h.next s.place) seat.4.held
      (chosen.may a.stream seat.1 seat.0 (record { stream = Places.stream-of offer agrees plan until firsts bs h steps at s.place a ea; ring = seat.3; behaviour = seat.2 }))

  lowest : All (λ b. Competes tau until steps (length steps) h.now b → a.stream.id ≤ b.stream.id) actors
  lowest = All-weaker (Contains actors) (λ b. Competes tau until steps (length steps) h.now b → a.stream.id ≤ b.stream.id) (λ b d k. each b (place-of actors b d) k) actors (All-contains_itself actors)
    where
      each : (b : Actor) → (i : ℕ) × (slice_get actors i ≡ Some b) → Competes tau until steps (length steps) h.now b → a.stream.id ≤ b.stream.id
      each b p k =
          let v = Places.seat-of offer agrees plan until firsts bs h steps at p.0 b p.1 in
          let m = competes-may tau until steps h.now b v.1 (agrees v.0) (λ u. v.4.same h.now u) (next_at h.next p.0) v.4.held k in
          let l = Places.within offer agrees plan until firsts bs h steps at p.0 b p.1 in
          let w = chosen.lowest p.0 b.stream v.1 v.0 l (record { stream = Places.stream-of offer agrees plan until firsts bs h steps at p.0 b p.1; ring = v.3; behaviour = v.2 }) m in
          let i = its in omega (arith, w, i)

  -- the stage after it, by what runs and what is ahead then
  module _ (h' : AtHand) (st : IsStarted tau s h h') (ahead' : List Step) (goes' : Goes tau actors until (steps ++ x ∷ []) ahead') (runs' : h'.running ≡ flipped (running tau ((steps ++ x ∷ []) ++ ahead') (length (steps ++ x ∷ []))))
      (held : IsHeld until (steps ++ x ∷ []) a (next_at h.next s.place) (without_first seat.1)) (awaited' : IsAwaited actors h.next (steps ++ x ∷ []) ahead' h'.joined) where
    rings-are : h'.rings ≡ slice_set h.rings s.place (without_first seat.1)
    rings-are = st.rings seat.1 seat.3

    within : s.place < length h.rings
    within = let n = at.sized.rings in let l = Places.within offer agrees plan until firsts bs h steps at s.place a ea in omega (arith, l, n)

    seats' : (i : ℕ) (b : Actor) (v : B) (r : RingValue) → slice_get actors i ≡ Some b → slice_get bs i ≡ Some v → slice_get h'.rings i ≡ Some r → IsSeat offer agrees until (steps ++ x ∷ []) b v (next_at h.next i) r (get_or h.queued i 0)
    seats' i b v r e f g = go (cases_eq i s.place)
      where
        go : (i ≡ s.place) ⊎ (i ≡ s.place → ⊥) → IsSeat offer agrees until (steps ++ x ∷ []) b v (next_at h.next i) r (get_or h.queued i 0)
        go (inl p) =
            let eb : a ≡ b = some-one (slice_get actors s.place) a b ea (subst (λ n. slice_get actors n ≡ Some b) p e) in
            let ev : seat.0 ≡ v = some-one (slice_get bs s.place) seat.0 v seat.2 (subst (λ n. slice_get bs n ≡ Some v) p f) in
            let here : slice_get h'.rings s.place ≡ Some (without_first seat.1) = ap (λ (rs : List RingValue). slice_get rs s.place) rings-are ∙ set-here h.rings s.place (without_first seat.1) within in
            let er : without_first seat.1 ≡ r = some-one (slice_get h'.rings s.place) (without_first seat.1) r here (subst (λ n. slice_get h'.rings n ≡ Some r) p g) in
            let own = seat-kept offer agrees until steps x a seat.0 (next_at h.next s.place) seat.1 (without_first seat.1) (get_or h.queued s.place 0) refl (cue-kept a.stream steps x refl refl at.goes.ended) refl held seat.4 in
            subst (λ n. IsSeat offer agrees until (steps ++ x ∷ []) b v (next_at h.next n) r (get_or h.queued n 0)) (sym p)
            (subst (λ (w : RingValue). IsSeat offer agrees until (steps ++ x ∷ []) b v (next_at h.next s.place) w (get_or h.queued s.place 0)) er
            (subst (λ (w : B). IsSeat offer agrees until (steps ++ x ∷ []) b w (next_at h.next s.place) (without_first seat.1) (get_or h.queued s.place 0)) ev
            (subst (λ (w : Actor). IsSeat offer agrees until (steps ++ x ∷ []) w seat.0 (next_at h.next s.place) (without_first seat.1) (get_or h.queued s.place 0)) eb own)))
        go (inr n) =
            let gr : slice_get h.rings i ≡ Some r = sym (set-other h.rings s.place i (without_first seat.1) n) ∙ sym (ap (λ (rs : List RingValue). slice_get rs i) rings-are) ∙ g in
            seat-other offer agrees until steps x b v (next_at h.next i) r (get_or h.queued i 0) refl (Places.apart offer agrees plan until firsts bs h steps at s.place i a b ea e n) refl at.goes.ended (at.seats i b v r e f gr)

    started-at : IsAt offer agrees plan until firsts bs h' (steps ++ x ∷ [])
    started-at = record {
      planned = at.planned;
      distinct = at.distinct;
      firsts_are = at.firsts_are;
      ahead = ahead';
      goes = goes';
      sized = record {
        ids = ap (λ (xs : List ℕ). length xs) st.ids ∙ at.sized.ids;
        next = ap (λ (xs : List (Option Offer)). length xs) st.next ∙ at.sized.next;
        rings = ap (λ (rs : List RingValue). length rs) rings-are ∙ length-set h.rings s.place (without_first seat.1) ∙ at.sized.rings;
        queued = ap (λ (xs : List ℕ). length xs) st.queued ∙ at.sized.queued;
      };
      ids_are = st.ids ∙ at.ids_are;
      behaviours_are = at.behaviours_are;
      seats = λ i b v r e f g. subst (λ (xs : List (Option Offer)). IsSeat offer agrees until (steps ++ x ∷ []) b v (next_at xs i) r (get_or h'.queued i 0)) (sym st.next)
          (subst (λ (xs : List ℕ). IsSeat offer agrees until (steps ++ x ∷ []) b v (next_at h.next i) r (get_or xs i 0)) (sym st.queued) (seats' i b v r e f g));
      runs = runs';
      now_is = st.now ∙ sym (now-one steps x);
      awaited = subst (λ (xs : List (Option Offer)). IsAwaited actors xs (steps ++ x ∷ []) ahead' h'.joined) (sym st.next) awaited';
      noted = subst (AreNoted (steps ++ x ∷ [])) (sym st.syncs) (noted-start steps h.syncs a.stream.id h.now at.noted);
      synchronous = ap (λ (v : SyncsValue). v.synchronous) st.syncs ∙ at.synchronous;
    }

  module _ (h' : AtHand) (st : IsStarted tau s h h') where
    -- an instance that waits
    waiting-at : (y : Instance) → slice_get seat.1.waiting 0 ≡ Some y → IsAt offer agrees plan until firsts bs h' (steps ++ x ∷ [])
    waiting-at y e =
        let l = slice_get_within seat.1.waiting 0 y e in
        let w = held-waits until steps a (next_at h.next s.place) seat.1 seat.4.held l in
        let g = Started.started_waiting tau (pos plan.rate) actors until there steps goes h.now (sym at.now_is) early none-runs-alone some-waits later a c competes lowest w in
        let f : nth_that (is_queue a.stream.id) (count_to (is_start a.stream.id) (steps ++ x ∷ []) (length steps)) (steps ++ x ∷ []) ≡ Some (Queue a.stream.id y.at y.event y.frame) =
        ap (λ n. nth_that (is_queue a.stream.id) n (steps ++ x ∷ [])) (count_to-more (is_start a.stream.id) steps (x ∷ []) (length steps) (omega arith) ∙ (let z : starts a.stream.id steps ≡ starts a.stream.id steps + 0 = omega arith in z))
        ∙ nth_that-more (is_queue a.stream.id) (starts a.stream.id steps + 0) steps (x ∷ []) (Queue a.stream.id y.at y.event y.frame) (seat.4.held.each 0 y e) in
        let r : running tau ((steps ++ x ∷ []) ++ []) (length (steps ++ x ∷ [])) ≡ Some (a.stream.id, h.now + y.frame.bits * tau) =
        running-one tau (streams_of actors) until steps [] [] x (finds-more steps (x ∷ [])) goes.fine ∙ ap (λ o. Some (a.stream.id, h.now + bits_of o * tau)) f in
        let t = st.waiting seat.1 y seat.3 e in
        let none = none-awaited actors h.next steps at.ahead h.joined at.awaited none-ahead in
        started-at h' st [] g (t.1 ∙ ap (λ n. Some (h.now + y.frame.bits * tau, n)) its ∙ sym (ap flipped r))
        (held-started until steps h.now a (next_at h.next s.place) seat.1 at.goes.ended l seat.4.held) (subst (IsAwaited actors h.next (steps ++ x ∷ []) []) (sym (t.0 ∙ none)) refl)

    -- or a joiner
    joiner-at : slice_get seat.1.waiting 0 ≡ None → Joins tau until steps (length steps) h.now a → IsAt offer agrees plan until firsts bs h' (steps ++ x ∷ [])
    joiner-at e j =
        let o = j.next in
        let empty = none-first seat.1.waiting e in
        let zero-long : length seat.1.waiting ≡ 0 = ap length empty in
        let n : next_at h.next s.place ≡ Some o = seat.4.held.offer ∙ j.is_next in
        let obeying = seat.4.obeying o n in
        let g = Started.started_joiner tau (pos plan.rate) actors until there steps goes h.now (sym at.now_is) early none-runs-alone some-waits later a c competes lowest o j.is_next obeying j.none_waits j.soon in
        let f = Started.found tau (pos plan.rate) actors until there steps goes h.now (sym at.now_is) early none-runs-alone some-waits later a c competes lowest o j.is_next obeying j.none_waits j.soon in
        let long = Started.long tau (pos plan.rate) actors until there steps goes h.now (sym at.now_is) early none-runs-alone some-waits later a c competes lowest o j.is_next obeying j.none_waits j.soon in
        let y = queue_step a.stream.id o in
        let r = Started.runs-after tau (pos plan.rate) actors until there steps goes h.now (sym at.now_is) early none-runs-alone some-waits later a c competes lowest (y ∷ []) y f j.soon long in
        let t = st.joiner seat.1 o seat.3 e n in
        let q = count-kept (is_queue a.stream.id) steps x refl in
        let k = count-raised (is_start a.stream.id) steps x (eq-true a.stream.id a.stream.id refl) in
        let m = seat.4.held.count in
        let sent : IsSentAhead (steps ++ x ∷ []) a = omega (arith, q, k, m, zero-long) in
        let same : drop 1 seat.1.waiting ≡ seat.1.waiting = ap (drop 1) empty ∙ sym empty in
        started-at h' st (y ∷ []) g (t.1 ∙ ap (λ n. Some (h.now + o.frame.bits * tau, n)) its ∙ sym (ap flipped r))
        (subst (λ (ys : List Instance). IsHeld until (steps ++ x ∷ []) a (next_at h.next s.place) (record { id = seat.1.id; waiting = ys; most = seat.1.most })) (sym same) (held-joiner until steps h.now a (next_at h.next s.place) seat.1 at.goes.ended zero-long seat.4.held))
        (subst (IsAwaited actors h.next (steps ++ x ∷ []) (y ∷ [])) (sym t.0) (a, ea, sent, (o, n, refl)))

    pub after-start : IsAt offer agrees plan until firsts bs h' (steps ++ x ∷ [])
    after-start = go (slice_get seat.1.waiting 0) refl competes
      where
        go : (v : Option Instance) → slice_get seat.1.waiting 0 ≡ v → Competes tau until steps (length steps) h.now a → IsAt offer agrees plan until firsts bs h' (steps ++ x ∷ [])
        go (Some y) e k = waiting-at y e
        go None e (inr j) = joiner-at e j
        go None e (inl w) =
            let z : length seat.1.waiting ≡ 0 = ap length (none-first seat.1.waiting e) in
            let f : true ≡ false = sym w ∙ held-none until steps a (next_at h.next s.place) seat.1 seat.4.held z in
            absurd (cc)
