-- The places of the streams: their actors, behaviours, offers and rings.
use Rattle.std.proofs.Common.{◌≡◌, ◌≢◌, ℕ, zero, suc, ◌≤◌, ◌<◌, ◌⊎◌, inl, inr, List, [], ◌∷◌, ◌++◌, length, get_or, slice_get, Option, Some, None, Contains, Bool, false, ◌==◌, ◌||◌, nat_lt, refl, sym, ap, ◌∙◌, subst, arith}
use Rattle.std.specs.Option.{ForSome}
use Rattle.std.proofs.lemmas.Bool.{cases_lt}
use Rattle.std.proofs.lemmas.Option.{slice_get_within, slice_get_read}
use Rattle.cop_rta.specs.declared.streams.Stream.{Stream}
use Rattle.cop_rta.specs.Streams.{AreDistinct}
use Rattle.cop_bus.specs.declared.steps.Step.{Step}
use Rattle.cop_bus.specs.Judge.{stream_of, waits_after, any_waits}
use Rattle.cop_bus.specs.Rings.{RingValue, any_in}
use Rattle.cop_bus.specs.Trace.{is_queue}
use Rattle.cop_bus.proofs.AtPlace.{there-is, some-one, one-place}
use Rattle.cop_bus.proofs.Work.{true-eq, lt-true, eq-true}
use Rattle.cop_bus.proofs.StepLemmas.{bool_cases}
use Rattle.cop_plan.specs.Values.{PlanValue}
use Rattle.cop_sim.specs.declared.behaviours.Offer.{Offer}
use Rattle.cop_sim.specs.declared.due.Due.{Due}
use Rattle.cop_sim.specs.Play.{Actor, actors_of, streams_of, queued_at, queue_step, next_offer}
use Rattle.cop_sim.specs.Seats.{next_at, id_at, IsDueTo, IsDueSoFar}
use Rattle.cop_sim.specs.Stages.{AtHand, queues, IsHeld, IsSeat, IsAt, actor_of}
use Rattle.cop_sim.proofs.Actors.{streams-are, there-all, same-all}
use Rattle.cop_sim.proofs.Kept.{count-raised}
use Rattle.cop_sim.proofs.Chosen.{id-got}
use Rattle.cop_sim.proofs.Held.{held-waits, held-none}

pub place-of : {A : Type 0} (xs : List A) (x : A) → Contains xs x → (i : ℕ) × (slice_get xs i ≡ Some x)
place-of xs x c = (c.0, slice_get_read xs (length xs) c.0 x refl c.1 (sym c.2))

module _ {B : Type 0} (offer : B → ℕ → Option Offer) (agrees : B → ℕ → ℕ → Bool) where
  pub actor-at : (ks : List Stream) (bs : List B) (i : ℕ) (k : Stream) (b : B) → slice_get ks i ≡ Some k → slice_get bs i ≡ Some b → slice_get (actors_of offer agrees ks bs) i ≡ Some (actor_of offer agrees k b)
  actor-at [] bs i k b e f = absurd (cc)
  actor-at (l ∷ ks) [] i k b e f = absurd (cc)
  actor-at (l ∷ ks) (c ∷ bs) zero k b e f = (let p : l ≡ k = cc in let q : c ≡ b = cc in ap (λ s. Some (actor_of offer agrees s c)) p ∙ ap (λ v. Some (actor_of offer agrees k v)) q)
  actor-at (l ∷ ks) (c ∷ bs) (suc i) k b e f = actor-at ks bs i k b e f

  pub stream-at : (ks : List Stream) (bs : List B) (i : ℕ) (a : Actor) → slice_get (actors_of offer agrees ks bs) i ≡ Some a → slice_get ks i ≡ Some a.stream
  stream-at [] bs i a e = absurd (cc)
  stream-at (l ∷ ks) [] i a e = absurd (cc)
  stream-at (l ∷ ks) (c ∷ bs) zero a e = (let p : actor_of offer agrees l c ≡ a = cc in ap (λ (v : Actor). Some v.stream) p)
  stream-at (l ∷ ks) (c ∷ bs) (suc i) a e = stream-at ks bs i a e

  pub actors-long : (ks : List Stream) (bs : List B) → length bs ≡ length ks → length (actors_of offer agrees ks bs) ≡ length ks
  actors-long [] bs e = refl
  actors-long (k ∷ ks) [] e = absurd (omega arith)
  actors-long (k ∷ ks) (b ∷ bs) e = ap suc (actors-long ks bs (omega arith))

-- some ring is not empty exactly where an instance of some stream waits
pub any-waits-by : (steps : List Step) (n : ℕ) (ks : List Stream) (rs : List RingValue) → length rs ≡ length ks →
    ((i : ℕ) (k : Stream) (r : RingValue) → slice_get ks i ≡ Some k → slice_get rs i ≡ Some r → nat_lt 0 (length r.waiting) ≡ waits_after steps n k.id) → any_in rs ≡ any_waits steps n ks
any-waits-by steps n [] [] e h = refl
any-waits-by steps n [] (r ∷ rs) e h = absurd (omega arith)
any-waits-by steps n (k ∷ ks) [] e h = absurd (omega arith)
any-waits-by steps n (k ∷ ks) (r ∷ rs) e h =
    ap (λ b. b || any_in rs) (h 0 k r refl refl) ∙ ap (λ b. waits_after steps n k.id || b) (any-waits-by steps n ks rs (omega arith) (λ i l s p q. h (suc i) l s p q))

module _ {B : Type 0} (offer : B → ℕ → Option Offer) (agrees : B → ℕ → ℕ → Bool) (plan : PlanValue) (until : ℕ) (firsts bs : List B) (h : AtHand) (steps : List Step) (at : IsAt offer agrees plan until firsts bs h steps) where
  abbrev actors : List Actor
  actors = actors_of offer agrees plan.streams firsts

  pub streams-same : streams_of actors ≡ plan.streams
  streams-same = streams-are offer agrees plan.streams firsts at.firsts_are

  pub distinct : AreDistinct (streams_of actors)
  distinct = subst AreDistinct (sym streams-same) at.distinct

  pub there : (a : Actor) → Contains actors a → stream_of (streams_of actors) a.stream.id ≡ Some a.stream
  there = there-all actors distinct

  pub same : (a b : Actor) → Contains actors a → Contains actors b → a.stream.id ≡ b.stream.id → a ≡ b
  same = same-all actors distinct

  pub stream-of : (i : ℕ) (a : Actor) → slice_get actors i ≡ Some a → slice_get plan.streams i ≡ Some a.stream
  stream-of i a e = stream-at offer agrees plan.streams firsts i a e

  pub within : (i : ℕ) (a : Actor) → slice_get actors i ≡ Some a → i < length plan.streams
  within i a e = slice_get_within plan.streams i a.stream (stream-of i a e)

  pub actor-there : (i : ℕ) → i < length plan.streams → (a : Actor) × (slice_get actors i ≡ Some a)
  actor-there i l = there-is actors i (let n = actors-long offer agrees plan.streams firsts at.firsts_are in omega (arith, l, n))

  pub behaviour-there : (i : ℕ) → i < length plan.streams → (b : B) × (slice_get bs i ≡ Some b)
  behaviour-there i l = there-is bs i (let n = at.behaviours_are in omega (arith, l, n))

  pub ring-there : (i : ℕ) → i < length plan.streams → (r : RingValue) × (slice_get h.rings i ≡ Some r)
  ring-there i l = there-is h.rings i (let n = at.sized.rings in omega (arith, l, n))

  pub apart : (i j : ℕ) (a b : Actor) → slice_get actors i ≡ Some a → slice_get actors j ≡ Some b → j ≢ i → (a.stream.id == b.stream.id) ≡ false
  apart i j a b e f n = elim (bool_cases (a.stream.id == b.stream.id)) [
    | inr g ↦ g
    | inl t ↦ absurd (n (sym (one-place plan.streams at.distinct i j a.stream b.stream (stream-of i a e) (stream-of j b f) (true-eq a.stream.id b.stream.id t))))
  ]

  -- what is at hand at the place of an actor
  pub seat-of : (i : ℕ) (a : Actor) → slice_get actors i ≡ Some a → (b : B) × (r : RingValue) × (slice_get bs i ≡ Some b) × (slice_get h.rings i ≡ Some r) × IsSeat offer agrees until steps a b (next_at h.next i) r (get_or h.queued i 0)
  seat-of i a e =
      let l = within i a e in
      let b = behaviour-there i l in
      let r = ring-there i l in
      (b.0, r.0, b.1, r.1, at.seats i a b.0 r.0 e b.1 r.1)

  pub next-is-offer : (i : ℕ) (a : Actor) → slice_get actors i ≡ Some a → next_at h.next i ≡ next_offer until steps (length steps) a
  next-is-offer i a e = (seat-of i a e).4.held.offer

  pub id-of : (i : ℕ) (a : Actor) → slice_get actors i ≡ Some a → id_at plan.streams i ≡ a.stream.id
  id-of i a e = id-got plan.streams i a.stream (stream-of i a e)

  -- the first offer at hand is the least
  pub after-due : (due : Option Due) → IsDueSoFar plan.streams h.next (length h.next) due → (m : ℕ) → ForSome due (λ d. m ≤ queued_at d.offer) → (a : Actor) → Contains actors a → (o : Offer) →
      next_offer until steps (length steps) a ≡ Some o → m ≤ queued_at o
  after-due due first m low a c o e =
      let p = place-of actors a c in
      let l = within p.0 a p.1 in
      let n : p.0 < length h.next = (let s = at.sized.next in omega (arith, l, s)) in
      let q : next_at h.next p.0 ≡ Some o = next-is-offer p.0 a p.1 ∙ e in
      go due first low p.0 n q
    where
      go : (due : Option Due) → IsDueSoFar plan.streams h.next (length h.next) due → ForSome due (λ d. m ≤ queued_at d.offer) → (j : ℕ) → j < length h.next → next_at h.next j ≡ Some o → m ≤ queued_at o
      go None first low j n q = (let f : None ≡ Some o = sym (first j n) ∙ q in absurd (cc))
      go (Some d) first low j n q = (let k = low d refl in elim (first.first j o n q) [ inl lt ↦ omega (arith, k, lt) | inr eq ↦ (let g = eq.0 in omega (arith, k, g)) ])

  pub least : (d : Due) → IsDueTo plan.streams h.next (length h.next) d → (a : Actor) → slice_get actors d.place ≡ Some a → (b : Actor) → Contains actors b → (p : Offer) → next_offer until steps (length steps) b ≡ Some p →
      (queued_at d.offer < queued_at p) ⊎ ((queued_at d.offer ≡ queued_at p) × (a.stream.id ≤ b.stream.id))
  least d first a e b c p f =
      let w = place-of actors b c in
      let l = within w.0 b w.1 in
      let n : w.0 < length h.next = (let s = at.sized.next in omega (arith, l, s)) in
      let g = id-of w.0 b w.1 in
      let i = sym first.its ∙ id-of d.place a e in
      elim (first.first w.0 p n (next-is-offer w.0 b w.1 ∙ f)) [
        | inl lt ↦ inl lt
        | inr eq ↦ (let m = eq.1 in inr (eq.0, omega (arith, m, g, i)))
      ]

  waits-here : (i : ℕ) (k : Stream) (r : RingValue) → slice_get (streams_of actors) i ≡ Some k → slice_get h.rings i ≡ Some r → nat_lt 0 (length r.waiting) ≡ waits_after steps (length steps) k.id
  waits-here i k r e f =
      let g = subst (λ (ks : List Stream). slice_get ks i ≡ Some k) streams-same e in
      let l = slice_get_within plan.streams i k g in
      let a = actor-there i l in
      let q : k ≡ a.0.stream = some-one (slice_get plan.streams i) k a.0.stream g (stream-of i a.0 a.1) in
      let s = seat-of i a.0 a.1 in
      let w : s.1 ≡ r = some-one (slice_get h.rings i) s.1 r s.3 f in
      subst (λ (v : RingValue). nat_lt 0 (length v.waiting) ≡ waits_after steps (length steps) k.id) w
      (subst (λ (v : Stream). nat_lt 0 (length s.1.waiting) ≡ waits_after steps (length steps) v.id) (sym q) (go a.0 s.1 (next_at h.next i) s.4.held))
    where
      go : (a : Actor) (r : RingValue) (next : Option Offer) → IsHeld until steps a next r → nat_lt 0 (length r.waiting) ≡ waits_after steps (length steps) a.stream.id
      go a r next held = elim (cases_lt 0 (length r.waiting)) [
        | inl l ↦ lt-true 0 (length r.waiting) l ∙ sym (held-waits until steps a next r held l)
        | inr l ↦ (let z : length r.waiting ≡ 0 = omega (arith, l) in ap (nat_lt 0) z ∙ sym (held-none until steps a next r held z))
      ]

  pub any-same : any_in h.rings ≡ any_waits steps (length steps) (streams_of actors)
  any-same = any-waits-by steps (length steps) (streams_of actors) h.rings (let n = at.sized.rings in let m = ap (λ (ks : List Stream). length ks) streams-same in omega (arith, n, m)) waits-here

-- a queue step raises the count of its stream
pub raised-by : (id : ℕ) (steps : List Step) (o : Offer) → queues id (steps ++ queue_step id o ∷ []) ≡ suc (queues id steps)
raised-by id steps o = count-raised (is_queue id) steps (queue_step id o) (eq-true id id refl)
