-- Rings that are found by their identifiers.
use Rattle.std.proofs.Common.{◌≡◌, ◌≢◌, ℕ, zero, suc, ◌+◌, ◌*◌, ◌<◌, ◌≤◌, inl, inr, List, [], ◌∷◌, ◌++◌, length, slice_get, slice_set, refl, sym, ◌∙◌, ap, subst, arith, false, Result, Ok, Err, OnOk, OnErr}
use Rattle.std.specs.Prelude.{Option, Some, All}
use Rattle.std.specs.BTreeMap.{BTreeMap, get}
use Rattle.std.specs.Cmp.{nat_cmp_is}
use Rattle.std.specs.Ordering.{nat_cmp, is_eq}
use Rattle.std.specs.declared.cmp.Ordering.TheVariants.{Less, Greater}
use Rattle.std.proofs.lemmas.Bool.{cases_lt, cases_eq}
use Rattle.std.proofs.lemmas.List.{length-set}
use Rattle.std.proofs.lemmas.List.Elements.{All-map, All-nil, All-push, All-set}
use Rattle.std.proofs.lemmas.Option.{slice_get_within}
use Rattle.cop_frame.specs.declared.rates.Rate.{Rate}
use Rattle.cop_frame.specs.Rate.{ticks_of}
use Rattle.cop_rta.specs.declared.streams.Stream.{Stream}
use Rattle.cop_bus.specs.declared.bus.Instance.{Instance}
use Rattle.cop_bus.specs.declared.queues.First.{First}
use Rattle.cop_bus.specs.declared.rings.Full.{Full}
use Rattle.cop_bus.proofs.AtPlace.{set-here, set-other, some-one, there-is, at-place}
use Rattle.cop_bus.specs.Rings.{RingValue, most_of, rings_of}
use Rattle.cop_bus.specs.Queues.{IsLowest}
use Rattle.cop_bus.specs.Bus.{Bus, ArePlaced, ArePlacedTo, AreQueuedBy, Starts, without_first}

-- ---- identifiers

apart : (a b : ℕ) → a ≢ b → is_eq (nat_cmp a b) ≡ false
apart a b n = elim (cases_lt a b) [
  | inl l ↦ ap is_eq (sym (nat_cmp_is a b Less l))
  | inr l ↦ elim (cases_lt b a) [
    | inl m ↦ ap is_eq (sym (nat_cmp_is a b Greater m))
    | inr m ↦ absurd (n (omega (arith, l, m)))
  ]
]

pub placed-more : (streams : List Stream) (i : ℕ) (k : Stream) (old new : BTreeMap ℕ ℕ) → ((j : ℕ) (l : Stream) → slice_get streams j ≡ Some l → k.id ≡ l.id → i ≡ j) → slice_get streams i ≡ Some k →
    get nat_cmp new k.id ≡ Some i → ((q : ℕ) → is_eq (nat_cmp k.id q) ≡ false → get nat_cmp new q ≡ get nat_cmp old q) → ArePlacedTo streams i old → ArePlacedTo streams (i + 1) new
placed-more streams i k old new one here put others h = record {
  each = λ j l m e. elim (cases_eq k.id l.id) [
    | inl s ↦ (let q = one j l e s in ap (get nat_cmp new) (sym s) ∙ put ∙ ap Some q)
    | inr s ↦ others l.id (apart k.id l.id s) ∙ h.each j l (elim (cases_eq j i) [
      | inl q ↦ absurd (s (ap (λ (v : Stream). v.id) (some-one (slice_get streams i) k l here (subst (λ n. slice_get streams n ≡ Some l) q e))))
      | inr q ↦ (elim (cases_lt j i) [ inl w ↦ w | inr w ↦ absurd (q (omega (arith, w, m))) ])
    ]) e
  ];
  within = λ id j e. elim (cases_eq k.id id) [
    | inl s ↦ (let q = some-one (get nat_cmp new id) i j (ap (get nat_cmp new) (sym s) ∙ put) e in omega (arith, q))
    | inr s ↦ (let w = h.within id j (sym (others id (apart k.id id s)) ∙ e) in omega (arith, w))
  ];
}

-- ---- rings

-- the ring at a place is that of the stream there, and nothing waits in it
pub ring-of : (ks : List Stream) (i : ℕ) (r : RingValue) → slice_get (rings_of ks) i ≡ Some r → (k : Stream) × (slice_get ks i ≡ Some k) × (r.id ≡ k.id) × (r.waiting ≡ [])
ring-of [] i r f = absurd (cc)
ring-of (l ∷ ks) zero r f = (let q : record { id = l.id; waiting = []; most = most_of l } ≡ r = cc in (l, refl, ap (λ (v : RingValue). v.id) (sym q), ap (λ (v : RingValue). v.waiting) (sym q)))
ring-of (l ∷ ks) (suc i) r f = ring-of ks i r f

rings-long : (ks : List Stream) → length (rings_of ks) ≡ length ks
rings-long [] = refl
rings-long (k ∷ ks) = ap suc (rings-long ks)

pub all-placed : (streams : List Stream) (n : ℕ) (places : BTreeMap ℕ ℕ) → length streams ≤ n → n ≤ length streams → ArePlacedTo streams n places → ArePlaced places (rings_of streams)
all-placed streams n places l m h = record {
  each = λ i r e. (let w = ring-of streams i r e in let b = slice_get_within streams i w.0 w.1 in ap (get nat_cmp places) w.2 ∙ h.each i w.0 (omega (arith, b, l)) w.1);
  within = λ id i e. (let w = h.within id i e in let v = rings-long streams in omega (arith, w, v, m));
}

-- a ring changes, but not its identifier
pub placed-set : (places : BTreeMap ℕ ℕ) (rings : List RingValue) (p : ℕ) (r s : RingValue) → slice_get rings p ≡ Some r → s.id ≡ r.id → ArePlaced places rings → ArePlaced places (slice_set rings p s)
placed-set places rings p r s e q h = record {
  each = λ i v f. elim (cases_eq i p) [
    | inl c ↦ (let w = some-one (slice_get (slice_set rings p s) p) s v (set-here rings p s (slice_get_within rings p r e)) (subst (λ n. slice_get (slice_set rings p s) n ≡ Some v) c f) in
        ap (get nat_cmp places) (ap (λ (t : RingValue). t.id) (sym w) ∙ q) ∙ h.each p r e ∙ ap Some (sym c))
    | inr c ↦ h.each i v (sym (set-other rings p i s c) ∙ f)
  ];
  within = λ id i f. (let w = h.within id i f in let l = length-set rings p s in omega (arith, w, l));
}

-- an instance was queued at a place, or the ring was full
pub placed-queued : (places : BTreeMap ℕ ℕ) (rings after : List RingValue) (p : ℕ) (next : RingValue → RingValue) (result : Result (Unit {0}) Full) → ((r : RingValue) → (next r).id ≡ r.id) → p < length rings →
    ((r : RingValue) → slice_get rings p ≡ Some r → OnOk result (after ≡ slice_set rings p (next r))) → OnErr result (after ≡ rings) → ArePlaced places rings → ArePlaced places after
placed-queued places rings after p next (Ok u) same-id low ok err h =
    let w = there-is rings p low in subst (ArePlaced places) (sym (ok w.0 w.1)) (placed-set places rings p w.0 (next w.0) w.1 (same-id w.0) h)
placed-queued places rings after p next (Err f) same-id low ok err h = subst (ArePlaced places) (sym err) h

-- ---- the first instance of a ring is sent

first-there : (ys : List Instance) → 0 < length ys → (y : Instance) × (slice_get ys 0 ≡ Some y)
first-there [] l = absurd (omega arith)
first-there (y ∷ ys) l = (y, refl)

pub waiting-sent : (old : Bus) (now : ℕ) (joiners : List Instance) (f : First) (after : List RingValue) (bits : ℕ) → IsLowest old.rings f → All (λ x. f.id ≤ x.id) joiners →
    ((r : RingValue) (y : Instance) → slice_get old.rings f.place ≡ Some r → slice_get r.waiting 0 ≡ Some y → bits ≡ y.frame.bits) →
    ((r : RingValue) → slice_get old.rings f.place ≡ Some r → after ≡ slice_set old.rings f.place (without_first r)) →
    Starts old now joiners (record { rate = old.rate; rings = after; running = Some (now + bits * ticks_of old.rate, f.id) }) (Some (record { id = f.id; joined = false }))
waiting-sent old now joiners f after bits low above is rest =
    let sent = first-there low.ring.waiting low.waits in (
      (f.place, low.ring, low.here, low.waits),
      inl (record {
        place = f.place;
        ring = low.ring;
        sent = sent.0;
        here = low.here;
        first = sent.1;
        lowest = λ j r e w. (let l = low.lowest j r e w in let i = low.its in omega (arith, l, i));
        above_joiners = subst (λ n. All (λ x. n ≤ x.id) joiners) (sym low.its) above;
        after = ap (λ (rs : List RingValue). record { rate = old.rate; rings = rs; running = Some (now + bits * ticks_of old.rate, f.id) }) (rest low.ring low.here)
            ∙ ap (λ n. record { rate = old.rate; rings = slice_set old.rings f.place (without_first low.ring); running = Some (now + n * ticks_of old.rate, f.id) }) (is low.ring sent.0 low.here sent.1)
            ∙ ap (λ n. record { rate = old.rate; rings = slice_set old.rings f.place (without_first low.ring); running = Some (now + sent.0.frame.bits * ticks_of old.rate, n) }) (sym low.its);
        started_is = ap (λ n. record { id = n; joined = false }) (sym low.its);
      }),
    )

abbrev pub bus_of : Rate → List RingValue → Option (ℕ × ℕ) → Bus
bus_of rate rings running = record { rate = rate; rings = rings; running = running }

pub queued-there : (rate : Rate) (places : BTreeMap ℕ ℕ) (rings after : List RingValue) (running : Option (ℕ × ℕ)) (now : Bus) (p place id : ℕ) (r : RingValue) (next : RingValue → RingValue) (result : Result (Unit {0}) Full) →
    bus_of rate rings running ≡ now → ArePlaced places rings → get nat_cmp places id ≡ Some p → slice_get now.rings place ≡ Some r → r.id ≡ id →
    ((v : RingValue) → slice_get rings p ≡ Some v → OnOk result (after ≡ slice_set rings p (next v))) →
    OnOk result (bus_of rate after running ≡ bus_of now.rate (slice_set now.rings place (next r)) now.running)
queued-there rate places rings after running now p place id r next result e h g f q ok =
    subst (λ (b : Bus). slice_get b.rings place ≡ Some r → OnOk result (bus_of rate after running ≡ bus_of b.rate (slice_set b.rings place (next r)) b.running)) e (λ w. go result w ok) f
  where
    go : (result : Result (Unit {0}) Full) → slice_get rings place ≡ Some r → ((v : RingValue) → slice_get rings p ≡ Some v → OnOk result (after ≡ slice_set rings p (next v))) →
        OnOk result (bus_of rate after running ≡ bus_of rate (slice_set rings place (next r)) running)
    go (Ok u) w ok =
        let one : p ≡ place = some-one (get nat_cmp places id) p place g (ap (get nat_cmp places) (sym q) ∙ h.each place r w) in
        ap (λ (rs : List RingValue). bus_of rate rs running) (ok r (subst (λ n. slice_get rings n ≡ Some r) (sym one) w) ∙ ap (λ n. slice_set rings n (next r)) one)
    go (Err x) w ok = tt

-- ---- when the instances that wait were queued

pub rings-queued : (streams : List Stream) (t : ℕ) → AreQueuedBy (rings_of streams) t
rings-queued streams t = All-map (λ (r : RingValue). All (λ y. y.at ≤ t) r.waiting) (λ (k : Stream). record { id = k.id; waiting = []; most = most_of k }) streams
    (λ i k l. All-nil (λ (y : Instance). y.at ≤ t))

-- an instance was queued at a place, or the ring was full
pub queued-more : (rings after : List RingValue) (p : ℕ) (y : Instance) (result : Result (Unit {0}) Full) → p < length rings →
    ((r : RingValue) → slice_get rings p ≡ Some r → OnOk result (after ≡ slice_set rings p (record { id = r.id; waiting = r.waiting ++ y ∷ []; most = r.most }))) → OnErr result (after ≡ rings) →
    (t : ℕ) → y.at ≤ t → AreQueuedBy rings t → AreQueuedBy after t
queued-more rings after p y (Ok u) low ok err t l h =
    let w = there-is rings p low in
    subst (λ (rs : List RingValue). AreQueuedBy rs t) (sym (ok w.0 w.1))
    (All-set (λ (r : RingValue). All (λ z. z.at ≤ t) r.waiting) rings p (record { id = w.0.id; waiting = w.0.waiting ++ y ∷ []; most = w.0.most })
    (All-push (λ z. z.at ≤ t) w.0.waiting y (at-place (λ (r : RingValue). All (λ z. z.at ≤ t) r.waiting) rings p w.0 w.1 h) l) h)
queued-more rings after p y (Err f) low ok err t l h = subst (λ (rs : List RingValue). AreQueuedBy rs t) (sym err) h
