-- The play of behaviours is one: after each of its steps the next is the same.
use Rattle.std.proofs.Common.{◌≡◌, ℕ, ◌+◌, ◌-◌, ◌*◌, ◌≤◌, ◌<◌, ◌⊎◌, inl, inr, List, [], ◌∷◌, ◌++◌, length, refl, sym, ◌∙◌, ap, subst, arith, suc, zero, Bool, true, false, cond, not, ◌||◌, nat_lt, nat_le}
use Rattle.std.specs.Prelude.{Option, None, Some, is_some, All, Contains, ◌==◌}
use Rattle.std.specs.Option.{option_and_then}
use Rattle.std.proofs.lemmas.Bool.{cases_lt}
use Rattle.std.proofs.lemmas.List.Elements.{All-contains, All-weaker}
use Rattle.cop_frame.specs.declared.rates.Rate.{Rate}
use Rattle.cop_frame.specs.Rate.{ticks_of}
use Rattle.cop_rta.specs.Streams.{AreDistinct}
use Rattle.cop_bus.specs.declared.steps.Step.{Step}
use Rattle.cop_bus.specs.declared.steps.Content.{Content}
use Rattle.cop_bus.specs.declared.steps.Step.TheVariants.{Queue, Start, End}
use Rattle.cop_bus.specs.Trace.{is_queue, is_start, count_to, nth_that, step_at, running, after, at_of, rank_of, bits_of}
use Rattle.cop_bus.specs.Judge.{id_of, stream_of, fits_transfer, is_not_idle, has_one_to_send, any_waits, first_broken, is_unfinished}
use Rattle.cop_bus.proofs.Demand.{and-left, and-right}
use Rattle.cop_bus.proofs.Work.{le-true, lt-false, true-le, true-lt, true-eq}
use Rattle.cop_bus.proofs.StepLemmas.{bool_cases, same_some, queue_shape, nth_before, count_to-le, count_to-past, count_to-zero}
use Rattle.cop_bus.proofs.Verdict.{Keeps, soon-some}
use Rattle.cop_bus.proofs.Accepts
use Rattle.cop_bus.proofs.Accepts.{stream-rest}
use Rattle.cop_bus.proofs.Waits.{any-none}
use Rattle.cop_bus.proofs.WholeTrace.{clean-legal}
use Rattle.cop_bus.proofs.Grows.{step_at-more, count_to-more, any_waits-more, no-more}
use Rattle.cop_bus.proofs.Appended.{step_at-here, length-one, one-more}
use Rattle.cop_sim.specs.declared.behaviours.Offer.{Offer}
use Rattle.cop_sim.specs.Play.{Actor, streams_of, queued_at, queue_step, by_end, next_offer, IsPlay, QueuesItsOffers, Competes}
use Rattle.cop_sim.proofs.Actors.{same-all}
use Rattle.cop_sim.proofs.Kept.{next-is, answer-more, answer-stays, frame-by_number, competes-more, competes-less}

-- an actor of the identifier that the set finds
actor-of : (actors : List Actor) (id : ℕ) → is_some (stream_of (streams_of actors) id) ≡ true → (a : Actor) × Contains actors a × (a.stream.id ≡ id)
actor-of [] id h = absurd (cc)
actor-of (a ∷ rest) id h = elim (bool_cases (a.stream.id == id)) [
  | inl t ↦ (a, (0, omega arith, refl), true-eq a.stream.id id t)
  | inr f ↦ (let r = actor-of rest id (sym (ap is_some (stream-rest a.stream (streams_of rest) id f)) ∙ h) in
      let c = r.1 in (r.0, (suc c.0, omega (arith, c.1), c.2), r.2))
]

-- a step at a moment comes before an offer's queue step
abbrev Comes : Step → Actor → Offer → Type 0
Comes x a o = (at_of x < queued_at o) ⊎ ((at_of x ≡ queued_at o) × (rank_of x ≤ 1) × ((at id event : ℕ) (frame : Content) → x ≡ Queue id at event frame → id ≤ a.stream.id))

-- What holds of a step of a play that comes next after the steps before, where a transfer runs or none.
record IsTurn (tau : ℕ) (actors : List Actor) (until : ℕ) (steps : List Step) (runs : Option (ℕ × ℕ)) (x : Step) : Type 0 where
  fits : fits_transfer runs x ≡ true
  within : at_of x ≤ until
  behind : (i : ℕ) → i < length steps → at_of (step_at steps i) ≤ at_of x
  not_idle : is_not_idle (streams_of actors) steps (length steps) runs (at_of x) ≡ true
  comes : (a : Actor) → Contains actors a → (o : Offer) → next_offer until steps (length steps) a ≡ Some o → Comes x a o
  queues : (at id event : ℕ) (frame : Content) → x ≡ Queue id at event frame →
      (a : Actor) × Contains actors a × (a.stream.id ≡ id) × ((o : Offer) × (next_offer until steps (length steps) a ≡ Some o) × (x ≡ queue_step a.stream.id o))
  waits : (z id : ℕ) → x ≡ Start id z → any_waits steps (length steps) (streams_of actors) ≡ true
  early : (z id : ℕ) → x ≡ Start id z → z < until
  lowest : (z id : ℕ) → x ≡ Start id z →
      ((a : Actor) × Contains actors a × (a.stream.id ≡ id) × Competes tau until steps (length steps) z a) × All (λ a. Competes tau until steps (length steps) z a → id ≤ a.stream.id) actors

-- what holds where no step comes after them
record IsOver (actors : List Actor) (until : ℕ) (steps : List Step) (runs : Option (ℕ × ℕ)) : Type 0 where
  unfinished : is_unfinished until runs ≡ true
  not_idle : is_not_idle (streams_of actors) steps (length steps) runs until ≡ true
  none_left : (a : Actor) → Contains actors a → next_offer until steps (length steps) a ≡ None

-- Where something waits on an idle bus, the moment is not after the last step.
no-later : (actors : List Actor) (steps : List Step) (n moment later : ℕ) (runs : Option (ℕ × ℕ)) → n ≡ length steps → runs ≡ None → is_not_idle (streams_of actors) steps n runs moment ≡ true →
    any_waits steps n (streams_of actors) ≡ true → ((i : ℕ) → i < length steps → at_of (step_at steps i) ≤ later) → moment ≤ later
no-later actors steps n moment later (Some r) e idle h w b = absurd (cc)
no-later actors steps zero moment later None e idle h w b =
    let f : any_waits steps 0 (streams_of actors) ≡ false = any-none steps 0 (streams_of actors) (λ id. ap (nat_lt (count_to (is_start id) steps 0)) (count_to-zero (is_queue id) steps) ∙ lt-false (count_to (is_start id) steps 0) 0 (omega arith)) in
    absurd (cc)
no-later actors steps (suc n) moment later None e idle h w b =
    let k : nat_le moment (at_of (step_at steps n)) ≡ true = go (nat_le moment (at_of (step_at steps n))) (any_waits steps (suc n) (streams_of actors)) w h in
    let l = true-le moment (at_of (step_at steps n)) k in
    let m = b n (omega arith) in omega (arith, l, m)
  where
    go : (p q : Bool) → q ≡ true → (p || not q) ≡ true → p ≡ true
    go true q f g = refl
    go false true f g = absurd (cc)
    go false false f g = absurd (cc)

-- a transfer of which an end is the end
end-fits : (runs : Option (ℕ × ℕ)) (at id : ℕ) → fits_transfer runs (End id at) ≡ true → runs ≡ Some (id, at)
end-fits None at id h = absurd (cc)
end-fits (Some r) at id h =
    let e = true-eq r.0 id (and-left (r.0 == id) (r.1 == at) h) in
    let f = true-eq r.1 at (and-right (r.0 == id) (r.1 == at) h) in
    ap (λ k. Some (k, r.1)) e ∙ ap (λ k. Some (id, k)) f

start-fits : (runs : Option (ℕ × ℕ)) (at id : ℕ) → fits_transfer runs (Start id at) ≡ true → runs ≡ None
start-fits None at id h = refl
start-fits (Some r) at id h = absurd (cc)

not-both : (runs : Option (ℕ × ℕ)) (at id : ℕ) → runs ≡ Some (id, at) → runs ≡ None → ⊥
not-both None at id f g = absurd (cc)
not-both (Some r) at id f g = absurd (cc)

same-end : (runs : Option (ℕ × ℕ)) (at id at' id' : ℕ) → runs ≡ Some (id, at) → runs ≡ Some (id', at') → End id at ≡ End id' at'
same-end runs at id at' id' f g = ap (λ (r : ℕ × ℕ). End r.0 r.1) (same_some {X = ℕ × ℕ} (id, at) (id', at') (sym f ∙ g))

module _ (tau : ℕ) (actors : List Actor) (distinct : AreDistinct (streams_of actors)) (until : ℕ) (steps : List Step) (runs : Option (ℕ × ℕ)) where
  abbrev Turn : Step → Type 0
  Turn x = IsTurn tau actors until steps runs x

  -- no step comes where there is none to come
  over-turn : (x : Step) → IsOver actors until steps runs → Turn x → ⊥
  over-turn (End id at) over t =
      let r = end-fits runs at id t.fits in
      let l = true-lt until at (sym (ap (is_unfinished until) r) ∙ over.unfinished) in
      let w = t.within in omega (arith, l, w)
  over-turn (Queue id at event frame) over t =
      let q = t.queues at id event frame refl in
      let e : None ≡ Some (q.3).0 = sym (over.none_left q.0 q.1) ∙ (q.3).1 in absurd (cc)
  over-turn (Start id z) over t =
      let l = no-later actors steps (length steps) until z runs refl (start-fits runs z id t.fits) over.not_idle (t.waits z id refl) t.behind in
      let e = t.early z id refl in omega (arith, l, e)

  -- an end comes alone
  end-queue : (at id at' id' event : ℕ) (frame : Content) → Turn (End id at) → Turn (Queue id' at' event frame) → ⊥
  end-queue at id at' id' event frame s t =
      let q = t.queues at' id' event frame refl in
      let r = end-fits runs at id s.fits in
      let l : at' < at = true-lt at' at (sym (ap (λ k. fits_transfer k (Queue id' at' event frame)) r) ∙ t.fits) in
      let m : at' ≡ queued_at (q.3).0 = ap at_of (q.3).2 in
      elim (s.comes q.0 q.1 (q.3).0 (q.3).1) [ inl c ↦ omega (arith, l, m, c) | inr c ↦ (let d = c.0 in omega (arith, l, m, d)) ]

  end-start : (at id z id' : ℕ) → Turn (End id at) → Turn (Start id' z) → ⊥
  end-start at id z id' s t = not-both runs at id (end-fits runs at id s.fits) (start-fits runs z id' t.fits)

  -- nothing starts where an offer is due
  queue-start : (at id event z id' : ℕ) (frame : Content) → Turn (Queue id at event frame) → Turn (Start id' z) → ⊥
  queue-start at id event z id' frame s t =
      let q = s.queues at id event frame refl in
      let m : at ≡ queued_at (q.3).0 = ap at_of (q.3).2 in
      let l = no-later actors steps (length steps) at z runs refl (start-fits runs z id' t.fits) s.not_idle (t.waits z id' refl) t.behind in
      elim (t.comes q.0 q.1 (q.3).0 (q.3).1) [ inl c ↦ omega (arith, l, m, c) | inr c ↦ (let d = c.1 in absurd (omega (arith, d))) ]

  -- at one moment the lower identifier is queued first
  no-sooner : (at id event at' id' event' : ℕ) (frame frame' : Content) → Turn (Queue id at event frame) → Turn (Queue id' at' event' frame') →
      (at < at') ⊎ ((at ≡ at') × (id ≤ id'))
  no-sooner at id event at' id' event' frame frame' s t =
      let q = t.queues at' id' event' frame' refl in
      let m : at' ≡ queued_at (q.3).0 = ap at_of (q.3).2 in
      let i = q.2 in
      elim (s.comes q.0 q.1 (q.3).0 (q.3).1) [
        | inl c ↦ inl (omega (arith, m, c))
        | inr c ↦ (let d = c.0 in let l = c.2 at id event frame refl in inr (omega (arith, m, d), omega (arith, l, i)))
      ]

  queue-queue : (at id event at' id' event' : ℕ) (frame frame' : Content) → Turn (Queue id at event frame) → Turn (Queue id' at' event' frame') → Queue id at event frame ≡ Queue id' at' event' frame'
  queue-queue at id event at' id' event' frame frame' s t =
      let p = s.queues at id event frame refl in
      let q = t.queues at' id' event' frame' refl in
      let i : id ≡ id' = same (no-sooner at id event at' id' event' frame frame' s t) (no-sooner at' id' event' at id event frame' frame t s) in
      let a : p.0 ≡ q.0 = same-all actors distinct p.0 q.0 p.1 q.1 (p.2 ∙ i ∙ sym q.2) in
      let o : (p.3).0 ≡ (q.3).0 = same_some (p.3).0 (q.3).0 (sym (p.3).1 ∙ ap (next_offer until steps (length steps)) a ∙ (q.3).1) in
      (p.3).2 ∙ ap (λ k. queue_step k.stream.id (p.3).0) a ∙ ap (queue_step (q.0).stream.id) o ∙ sym (q.3).2
    where
      same : (at < at') ⊎ ((at ≡ at') × (id ≤ id')) → (at' < at) ⊎ ((at' ≡ at) × (id' ≤ id)) → id ≡ id'
      same (inl f) (inl g) = absurd (omega (arith, f, g))
      same (inl f) (inr g) = let h = g.0 in absurd (omega (arith, f, h))
      same (inr f) (inl g) = let h = f.0 in absurd (omega (arith, g, h))
      same (inr f) (inr g) = let h = f.1 in let k = g.1 in omega (arith, h, k)

  start-start : (z id z' id' : ℕ) → Turn (Start id z) → Turn (Start id' z') → Start id z ≡ Start id' z'
  start-start z id z' id' s t =
      let idle = start-fits runs z id s.fits in
      let l = no-later actors steps (length steps) z z' runs refl idle s.not_idle (s.waits z id refl) t.behind in
      let m = no-later actors steps (length steps) z' z runs refl idle t.not_idle (t.waits z' id' refl) s.behind in
      let e : z ≡ z' = omega (arith, l, m) in
      let p = s.lowest z id refl in
      let q = t.lowest z' id' refl in
      let f = All-contains (λ a. Competes tau until steps (length steps) z a → id ≤ a.stream.id) actors (q.0).0 p.1 (q.0).1 (subst (λ k. Competes tau until steps (length steps) k (q.0).0) (sym e) (q.0).3) in
      let g = All-contains (λ a. Competes tau until steps (length steps) z' a → id' ≤ a.stream.id) actors (p.0).0 q.1 (p.0).1 (subst (λ k. Competes tau until steps (length steps) k (p.0).0) e (p.0).3) in
      let h = (p.0).2 in
      let k = (q.0).2 in
      let i : id ≡ id' = omega (arith, f, g, h, k) in
      ap (λ k. Start id k) e ∙ ap (λ j. Start j z') i

  -- two steps that come next are one
  turn-turn : (x y : Step) → Turn x → Turn y → x ≡ y
  turn-turn (End id at) (End id' at') s t = same-end runs at id at' id' (end-fits runs at id s.fits) (end-fits runs at' id' t.fits)
  turn-turn (End id at) (Queue id' at' event frame) s t = absurd (end-queue at id at' id' event frame s t)
  turn-turn (End id at) (Start id' z) s t = absurd (end-start at id z id' s t)
  turn-turn (Queue id at event frame) (End id' at') s t = absurd (end-queue at' id' at id event frame t s)
  turn-turn (Queue id at event frame) (Queue id' at' event' frame') s t = queue-queue at id event at' id' event' frame frame' s t
  turn-turn (Queue id at event frame) (Start id' z) s t = absurd (queue-start at id event z id' frame s t)
  turn-turn (Start id z) (End id' at') s t = absurd (end-start at' id' z id t s)
  turn-turn (Start id z) (Queue id' at' event frame) s t = absurd (queue-start at' id' event z id frame t s)
  turn-turn (Start id z) (Start id' z') s t = start-start z id z' id' s t

-- the bits of an offer
abbrev bits_offered : Option Offer → ℕ
bits_offered None = 0
bits_offered (Some o) = o.frame.bits

module _ (rate : Rate) (actors : List Actor) (distinct : AreDistinct (streams_of actors)) (until : ℕ) where
  abbrev tau : ℕ
  tau = ticks_of rate

  module _ (steps : List Step) (play : IsPlay tau actors until steps) where
    clean : first_broken tau (streams_of actors) until steps ≡ None
    clean = (clean-legal rate (streams_of actors) until steps distinct).1 play.legal

    kept : (i : ℕ) (x : Step) → i < length steps → step_at steps i ≡ x → Keeps tau (streams_of actors) until steps i x
    kept i x l e = Accepts.kept-as tau (streams_of actors) until steps distinct clean i x l e

    its-frames : (a : Actor) → Contains actors a → (j : ℕ) (x : Step) → nth_that (is_queue a.stream.id) j steps ≡ Some x → (o : Offer) × (a.offer j ≡ Some o) × ((at : ℕ) × (event : ℕ) × (x ≡ Queue a.stream.id at event o.frame))
    its-frames a c = frame-by_number steps a (All-contains (QueuesItsOffers steps) actors a play.offers c)

    -- an offer that comes next is queued by one of the steps to come
    to-come : (i : ℕ) → i ≤ length steps → (a : Actor) → Contains actors a → (o : Offer) → next_offer until steps i a ≡ Some o →
        (j : ℕ) × (i ≤ j) × (j < length steps) × (step_at steps j ≡ queue_step a.stream.id o)
    to-come i l a c o e =
        let p = is_queue a.stream.id in
        let n = count_to p steps i in
        let r = (next-is until steps i a o e).0 in
        elim (cases_lt n (count_to p steps (length steps))) [
          | inl m ↦ (let b = nth_before p steps (length steps) n m in
              let g : i ≤ b.0 = elim (cases_lt b.0 i) [ inr k ↦ k | inl k ↦ (let v = count_to-past p steps b.0 i k b.2 b.3 in let w = b.4 in absurd (omega (arith, v, w))) ] in
              let s = queue_shape a.stream.id (step_at steps b.0) b.3 in
              let q = All-contains (QueuesItsOffers steps) actors a play.offers c b.0 s.0 s.1 s.2 b.2 s.3 in
              let f : q.0 ≡ o = same_some q.0 o (sym q.1 ∙ answer-stays steps a o (b.0 - i) i b.0 (let h = b.2 in omega (arith, g)) (let h = b.2 in omega (arith, h)) b.4 r) in
              (b.0, g, b.2, q.2 ∙ ap (queue_step a.stream.id) f))
          | inr m ↦ (let k = count_to-le p steps i (length steps) l in
              let s : count_to p steps (length steps) ≡ n = omega (arith, m, k) in
              let none = All-contains (λ b. next_offer until steps (length steps) b ≡ None) actors a play.all_queued c in
              let t = answer-stays steps a o (length steps - i) i (length steps) (omega (arith, l)) (omega arith) s r in
              let f : None ≡ Some o = sym none ∙ ap (option_and_then (by_end until)) (t ∙ sym r) ∙ e in absurd (cc))
        ]

    -- so no step comes after it
    comes-first : (i : ℕ) (x : Step) → i < length steps → step_at steps i ≡ x → (a : Actor) → Contains actors a → (o : Offer) → next_offer until steps i a ≡ Some o → Comes x a o
    comes-first i x l e a c o h =
        let w = to-come i (omega arith) a c o h in
        elim (cases_lt i w.0) [
          | inr k ↦ (let u = w.1 in let s : i ≡ w.0 = omega (arith, k, u) in
              let f : x ≡ queue_step a.stream.id o = sym e ∙ ap (step_at steps) s ∙ w.3 in
              inr (ap at_of f, subst (λ y. rank_of y ≤ 1) (sym f) (omega arith), λ at id event frame g. own id a.stream.id at event frame (sym g ∙ f)))
          | inl k ↦ (let u = play.legal.ordered i w.0 k w.2 in
              elim u [
                | inl v ↦ inl (subst (λ y. at_of x < at_of y) w.3 (subst (λ y. at_of y < at_of (step_at steps w.0)) e v))
                | inr v ↦ inr (
                  sym (ap at_of e) ∙ v.0 ∙ ap at_of w.3,
                  subst (λ y. rank_of x ≤ rank_of y) w.3 (subst (λ y. rank_of y ≤ rank_of (step_at steps w.0)) e v.1),
                  λ at id event frame g. (let at-o : at ≡ queued_at o = sym (ap at_of g) ∙ sym (ap at_of e) ∙ v.0 ∙ ap at_of w.3 in
                      play.rising i w.0 at id a.stream.id event o.event frame o.frame k w.2 (e ∙ g) (w.3 ∙ ap (λ m. Queue a.stream.id m o.event o.frame) (sym at-o))),
                )
              ])
        ]
      where
        own : (id k at event : ℕ) (frame : Content) → Queue id at event frame ≡ queue_step k o → id ≤ k
        own id k at event frame f = let g : id ≡ k = cc in omega (arith, g)

    -- the bits of what a start sends are those of its actor's offer
    sends : (i z id : ℕ) → i < length steps → step_at steps i ≡ Start id z → (a : Actor) → Contains actors a → a.stream.id ≡ id →
        bits_of (nth_that (is_queue id) (count_to (is_start id) steps i) steps) ≡ bits_offered (a.offer (count_to (is_start id) steps i))
    sends i z id l e a c h =
        let n = count_to (is_start id) steps i in
        let k = kept i (Start id z) l e in
        let s = soon-some tau z (nth_that (is_queue id) n steps) (and-right (any_waits steps i (streams_of actors)) _ k.to_send) in
        let q = its-frames a c n s.0 (ap (λ j. nth_that (is_queue j) n steps) h ∙ s.1) in
        ap bits_of s.1 ∙ ap (λ y. bits_of (Some y)) (q.2).2 ∙ ap bits_offered (sym q.1)

  -- a step of a play that comes after the steps p
  module _ (p : List Step) (x : Step) (rest : List Step) (play : IsPlay tau actors until (p ++ x ∷ rest)) where
    abbrev all : List Step
    all = p ++ x ∷ rest

    abbrev n : ℕ
    n = length p

    here : step_at all n ≡ x
    here = step_at-here p x rest

    inside : n < length all
    inside = go p
      where
        go : (p : List Step) → length p < length (p ++ x ∷ rest)
        go [] = omega arith
        go (y ∷ p) = let h = go p in omega (arith, h)

    waits-same : any_waits all n (streams_of actors) ≡ any_waits p n (streams_of actors)
    waits-same = any_waits-more p (x ∷ rest) n (streams_of actors) (omega arith)

    offer-same : (a : Actor) → next_offer until all n a ≡ next_offer until p n a
    offer-same a = ap (option_and_then (by_end until)) (answer-more p (x ∷ rest) n a (omega arith))

    idle-same : (m : ℕ) → m ≡ n → (r : Option (ℕ × ℕ)) (moment : ℕ) → is_not_idle (streams_of actors) all m r moment ≡ is_not_idle (streams_of actors) p m r moment
    idle-same zero e r moment = refl
    idle-same (suc m) e (Some r) moment = refl
    idle-same (suc m) e None moment =
        ap (λ y. nat_le moment (at_of y) || not (any_waits all (suc m) (streams_of actors))) (step_at-more p (x ∷ rest) m (omega arith))
        ∙ ap (λ b. nat_le moment (at_of (step_at p m)) || not b) (any_waits-more p (x ∷ rest) (suc m) (streams_of actors) (omega arith))

    keep : Keeps tau (streams_of actors) until all n x
    keep = kept all play n x inside here

    queued-of : (at id event : ℕ) (frame : Content) → x ≡ Queue id at event frame →
        (a : Actor) × Contains actors a × (a.stream.id ≡ id) × ((o : Offer) × (next_offer until p n a ≡ Some o) × (x ≡ queue_step a.stream.id o))
    queued-of at id event frame e =
        let a = actor-of actors id (sym (ap (λ y. is_some (stream_of (streams_of actors) (id_of y))) e) ∙ keep.known) in
        let q = All-contains (QueuesItsOffers all) actors a.0 play.offers a.1 n at event frame inside (here ∙ e ∙ ap (λ k. Queue k at event frame) (sym a.2)) in
        let f : x ≡ queue_step (a.0).stream.id q.0 = sym here ∙ q.2 in
        let m : queued_at q.0 ≤ until = subst (λ y. at_of y ≤ until) q.2 (play.legal.by_end n inside) in
        (a.0, a.1, a.2, (q.0, sym (offer-same a.0) ∙ ap (option_and_then (by_end until)) q.1 ∙ ap (λ b. cond b (Some q.0) None) (le-true (queued_at q.0) until m), f))

    lowest-of : (z id : ℕ) → x ≡ Start id z →
        ((a : Actor) × Contains actors a × (a.stream.id ≡ id) × Competes tau until p n z a) × All (λ a. Competes tau until p n z a → id ≤ a.stream.id) actors
    lowest-of z id e =
        let w = play.lowest n z id inside (here ∙ e) in
        let s = w.0 in (
          (s.1, (s.0, s.2, s.3), (s.4).0, competes-less tau until p (x ∷ rest) n z (omega arith) s.1 (s.4).1),
          All-weaker (λ a. Competes tau until all n z a → id ≤ a.stream.id) (λ a. Competes tau until p n z a → id ≤ a.stream.id)
              (λ a f c. f (competes-more tau until p (x ∷ rest) n z (omega arith) a c)) actors w.1,
        )

    turn-of : IsTurn tau actors until p (running tau all n) x
    turn-of = record {
      fits = keep.transfer;
      within = subst (λ y. at_of y ≤ until) here (play.legal.by_end n inside);
      behind = λ i l. (let o = play.legal.ordered i n l inside in
          let f = step_at-more p (x ∷ rest) i l in
          elim o [
            | inl v ↦ (let g = ap at_of f in let h = ap at_of here in omega (arith, v, g, h))
            | inr v ↦ (let u = v.0 in let g = ap at_of f in let h = ap at_of here in omega (arith, u, g, h))
          ]);
      not_idle = sym (idle-same n refl (running tau all n) (at_of x)) ∙ keep.not_idle;
      comes = λ a c o h. comes-first all play n x inside here a c o (offer-same a ∙ h);
      queues = queued-of;
      waits = λ z id e. sym waits-same ∙ and-left (any_waits all n (streams_of actors)) _ (sym (ap (has_one_to_send tau (streams_of actors) all n) e) ∙ keep.to_send);
      early = λ z id e. play.none_at_end n z id inside (here ∙ e);
      lowest = lowest-of;
    }

  -- where a play ends
  over-of : (p : List Step) → IsPlay tau actors until p → IsOver actors until p (running tau p (length p))
  over-of p play =
      let e = Accepts.ends tau (streams_of actors) until p distinct (clean p play) in
      record {
        unfinished = e.0;
        not_idle = e.1;
        none_left = λ a c. All-contains (λ b. next_offer until p (length p) b ≡ None) actors a play.all_queued c;
      }

  abbrev Play : List Step → Type 0
  Play steps = IsPlay tau actors until steps

  -- after the same steps, and the same step, the same transfer runs
  runs-same : (p : List Step) (x : Step) (xs ys : List Step) → Play (p ++ x ∷ xs) → Play (p ++ x ∷ ys) →
      running tau (p ++ x ∷ xs) (length p) ≡ running tau (p ++ x ∷ ys) (length p) → running tau (p ++ x ∷ xs) (suc (length p)) ≡ running tau (p ++ x ∷ ys) (suc (length p))
  runs-same p x xs ys f g r =
      ap (λ y. after tau (p ++ x ∷ xs) (length p) y (running tau (p ++ x ∷ xs) (length p))) (step_at-here p x xs)
      ∙ ap (after tau (p ++ x ∷ xs) (length p) x) r ∙ go x refl
      ∙ sym (ap (λ y. after tau (p ++ x ∷ ys) (length p) y (running tau (p ++ x ∷ ys) (length p))) (step_at-here p x ys))
    where
      go : (y : Step) → x ≡ y → after tau (p ++ x ∷ xs) (length p) y (running tau (p ++ x ∷ ys) (length p)) ≡ after tau (p ++ x ∷ ys) (length p) y (running tau (p ++ x ∷ ys) (length p))
      go (End id at) e = refl
      go (Queue id at event frame) e = refl
      go (Start id z) e =
          let a = (lowest-of p x xs f z id e).0 in
          let c = sends (p ++ x ∷ xs) f (length p) z id (inside p x xs f) (here p x xs f ∙ e) a.0 a.1 a.2 in
          let d = sends (p ++ x ∷ ys) g (length p) z id (inside p x ys g) (here p x ys g ∙ e) a.0 a.1 a.2 in
          let m = count_to-more (is_start id) p (x ∷ xs) (length p) (omega arith) ∙ sym (count_to-more (is_start id) p (x ∷ ys) (length p) (omega arith)) in
          ap (λ b. Some (id, z + b * tau)) (c ∙ ap (λ k. bits_offered ((a.0).offer k)) m ∙ sym d)

  same-rest : (p xs ys : List Step) → Play (p ++ xs) → Play (p ++ ys) → running tau (p ++ xs) (length p) ≡ running tau (p ++ ys) (length p) → xs ≡ ys
  same-rest p [] [] f g r = refl
  same-rest p [] (y ∷ ys) f g r =
      let e : running tau p (length p) ≡ running tau (p ++ y ∷ ys) (length p) = sym (ap (λ s. running tau s (length p)) (no-more p)) ∙ r in
      absurd (over-turn tau actors distinct until p (running tau (p ++ y ∷ ys) (length p)) y (subst (IsOver actors until p) e (over-of p (subst Play (no-more p) f))) (turn-of p y ys g))
  same-rest p (x ∷ xs) [] f g r =
      let e : running tau p (length p) ≡ running tau (p ++ x ∷ xs) (length p) = sym (ap (λ s. running tau s (length p)) (no-more p)) ∙ sym r in
      absurd (over-turn tau actors distinct until p (running tau (p ++ x ∷ xs) (length p)) x (subst (IsOver actors until p) e (over-of p (subst Play (no-more p) g))) (turn-of p x xs f))
  same-rest p (x ∷ xs) (y ∷ ys) f g r =
      let e : y ≡ x = turn-turn tau actors distinct until p (running tau (p ++ y ∷ ys) (length p)) y x (turn-of p y ys g) (subst (λ k. IsTurn tau actors until p k x) r (turn-of p x xs f)) in
      let g2 : Play (p ++ x ∷ ys) = subst (λ k. Play (p ++ k ∷ ys)) e g in
      let r2 = subst (λ k. running tau (p ++ x ∷ xs) (length p) ≡ running tau (p ++ k ∷ ys) (length p)) e r in
      let s = runs-same p x xs ys f g2 r2 in
      let q : running tau ((p ++ x ∷ []) ++ xs) (length (p ++ x ∷ [])) ≡ running tau ((p ++ x ∷ []) ++ ys) (length (p ++ x ∷ [])) =
      ap (λ k. running tau k (length (p ++ x ∷ []))) (one-more p x xs) ∙ ap (running tau (p ++ x ∷ xs)) (length-one p x) ∙ s
      ∙ sym (ap (running tau (p ++ x ∷ ys)) (length-one p x)) ∙ sym (ap (λ k. running tau k (length (p ++ x ∷ []))) (one-more p x ys)) in
      let h = same-rest (p ++ x ∷ []) xs ys (subst Play (sym (one-more p x xs)) f) (subst Play (sym (one-more p x ys)) g2) q in
      ap (λ t. x ∷ t) h ∙ ap (λ k. k ∷ ys) (sym e)

  pub one-play : (steps others : List Step) → Play steps → Play others → steps ≡ others
  one-play steps others f g = same-rest [] steps others f g refl
