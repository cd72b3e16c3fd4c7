-- Who is sent where no offer is due within a bit time.
use Rattle.std.proofs.Common.{◌≡◌, ℕ, ◌+◌, ◌<◌, ◌≤◌, inl, inr, List, length, refl, sym, ◌∙◌, ap, arith, Bool, true, false, nat_lt, ◌&&◌, ◌||◌}
use Rattle.std.specs.Prelude.{Option, None, Some, ◌==◌}
use Rattle.std.proofs.lemmas.Bool.{lt-ltb, le-ltb, ltb-true, ltb-false}
use Rattle.cop_bus.specs.Rings.{RingValue}
use Rattle.cop_sim.specs.Hands.{AreTheirs}
use Rattle.cop_bus.specs.Queues.{IsLowestOf}
use Rattle.cop_bus.specs.declared.queues.First.{First}
use Rattle.cop_sim.proofs.Chosen.{id-got}
use Rattle.cop_bus.proofs.AtPlace.{there-is}
use Rattle.std.proofs.lemmas.Option.{slice_get_within}
use Rattle.cop_rta.specs.declared.streams.Stream.{Stream}
use Rattle.cop_sim.specs.declared.behaviours.Offer.{Offer}
use Rattle.cop_sim.specs.declared.due.Due.{Due}
use Rattle.cop_sim.specs.Play.{queued_at}
use Rattle.cop_sim.specs.Seats.{next_at, is_due_before, joins_with, may_be_sent, IsDueSoFar, IsChosenSoFar, sent_first}

-- ---- who is sent where no offer is due within a bit time

none-joins : (agrees : ℕ → ℕ → Bool) (tau z waiting : ℕ) (o : Option Offer) → ((p : Offer) → o ≡ Some p → z + tau ≤ queued_at p) → joins_with agrees tau z waiting o ≡ false
none-joins agrees tau z waiting None h = refl
none-joins agrees tau z waiting (Some p) h = (let l = h p refl in
    last ((waiting == 0) && nat_lt z (queued_at p)) (nat_lt (queued_at p) (z + tau)) (agrees z (queued_at p)) (le-ltb (queued_at p) (z + tau) l))
  where
    last : (a b c : Bool) → b ≡ false → (a && b && c) ≡ false
    last true b c e = ap (λ v. v && c) e
    last false b c e = refl

may-wait : (agrees : ℕ → ℕ → Bool) (tau z waiting : ℕ) (o : Option Offer) → ((p : Offer) → o ≡ Some p → z + tau ≤ queued_at p) → may_be_sent agrees tau z waiting o ≡ nat_lt 0 waiting
may-wait agrees tau z waiting o h = ap (λ b. nat_lt 0 waiting || b) (none-joins agrees tau z waiting o h) ∙ or-none (nat_lt 0 waiting)
  where
    or-none : (b : Bool) → (b || false) ≡ b
    or-none true = refl
    or-none false = refl

-- each offer at hand is queued at the moment or later
later : (streams : List Stream) (next : List (Option Offer)) (due : Option Due) (m : ℕ) → IsDueSoFar streams next (length next) due → is_due_before due m ≡ false → (j : ℕ) → j < length next → (p : Offer) → next_at next j ≡ Some p → m ≤ queued_at p
later streams next None m first f j l p e = (let z : None ≡ Some p = sym (first j l) ∙ e in absurd (cc))
later streams next (Some d) m first f j l p e =
    let low = ltb-false (queued_at d.offer) m f in
    elim (first.first j p l e) [ inl a ↦ omega (arith, low, a) | inr a ↦ (let b = a.0 in omega (arith, low, b)) ]

pub lowest-chosen : {B : Type 0} (agrees : B → ℕ → ℕ → Bool) (streams : List Stream) (next : List (Option Offer)) (rings : List RingValue) (bs : List B) (tau now : ℕ) (due : Option Due) (o : Option First) →
    length next ≡ length streams → length rings ≡ length streams → is_due_before due (now + tau) ≡ false → IsLowestOf rings o → IsDueSoFar streams next (length next) due → AreTheirs streams rings →
    IsChosenSoFar agrees streams next rings bs tau now (length streams) (sent_first o)
lowest-chosen {B} agrees streams next rings bs tau now due o long many before low first theirs = go o low
  where
    may : (j : ℕ) (k : Stream) (r : RingValue) (b : B) → j < length streams → may_be_sent (agrees b) tau now (length r.waiting) (next_at next j) ≡ nat_lt 0 (length r.waiting)
    may j k r b l = may-wait (agrees b) tau now (length r.waiting) (next_at next j) (later streams next due (now + tau) first before j (omega (arith, l, long)))

    go : (o : Option First) → IsLowestOf rings o → IsChosenSoFar agrees streams next rings bs tau now (length streams) (sent_first o)
    go None low = λ j k r b l p. may j k r b l ∙ ap (nat_lt 0) (low j r p.ring)
    go (Some s) low =
        let l : s.place < length streams = (let w = slice_get_within rings s.place low.ring low.here in omega (arith, w, many)) in
        let k = there-is streams s.place l in
        record {
          its = id-got streams s.place k.0 k.1 ∙ sym (theirs s.place k.0 low.ring k.1 low.here) ∙ low.its;
          within = l;
          may = λ j r b p. (let q = some-ring r low.ring (sym p.ring ∙ low.here) in let w = low.waits in
              may s.place j r b l ∙ ap (λ (v : RingValue). nat_lt 0 (length v.waiting)) q ∙ lt-ltb 0 (length low.ring.waiting) w);
          lowest = λ j k' r b m p t.
              (let w = ltb-true 0 (length r.waiting) (sym (may j k' r b m) ∙ t) in
              let e = theirs j k' r p.stream p.ring in
              let v = low.lowest j r p.ring w in
              omega (arith, e, v));
        }
      where
        some-ring : (x y : RingValue) → Some x ≡ Some y → x ≡ y
        some-ring x y e = cc
