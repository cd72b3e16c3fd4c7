-- Who may be sent by what is at hand is who competes.
use Rattle.std.proofs.Common.{◌≡◌, ℕ, ◌+◌, inl, inr, List, length, sym, ◌∙◌, ap, arith, Bool, true, false, ◌&&◌, nat_lt}
use Rattle.std.specs.Prelude.{Option, None, Some, ◌==◌}
use Rattle.cop_bus.specs.declared.steps.Step.{Step}
use Rattle.cop_bus.proofs.Demand.{and-left, and-right, and-true}
use Rattle.cop_bus.proofs.Work.{true-lt, lt-true, true-eq, eq-true}
use Rattle.std.proofs.lemmas.Bool.{cases_lt}
use Rattle.cop_bus.proofs.Found.{or-left, or-right}
use Rattle.cop_bus.proofs.Accepts.{or_cases}
use Rattle.cop_sim.specs.declared.behaviours.Offer.{Offer}
use Rattle.cop_sim.specs.Play.{Actor, queued_at, Joins, Competes}
use Rattle.cop_bus.specs.Rings.{RingValue}
use Rattle.cop_sim.specs.Seats.{may_be_sent, joins_with}
use Rattle.cop_sim.specs.Stages.{queues, starts, IsHeld}
use Rattle.cop_sim.proofs.Held.{held-waits, held-none}

module _ (tau until : ℕ) (steps : List Step) (z : ℕ) (a : Actor) (ring : RingValue) (agrees : ℕ → ℕ → Bool) (same : (u : ℕ) → agrees z u ≡ a.agrees z u) where
  pub may-competes : (next : Option Offer) → IsHeld until steps a next ring → may_be_sent agrees tau z (length ring.waiting) next ≡ true → Competes tau until steps (length steps) z a
  may-competes next h t = elim (or_cases (nat_lt 0 (length ring.waiting)) (joins_with agrees tau z (length ring.waiting) next) t) [
    | inl w ↦ inl (held-waits until steps a next ring h (true-lt 0 (length ring.waiting) w))
    | inr w ↦ inr (go next h w)
  ]
    where
      go : (next : Option Offer) → IsHeld until steps a next ring → joins_with agrees tau z (length ring.waiting) next ≡ true → Joins tau until steps (length steps) z a
      go None h w = absurd (cc)
      go (Some o) h w =
          let p = length ring.waiting == 0 in
          let q = nat_lt z (queued_at o) in
          let r = nat_lt (queued_at o) (z + tau) in
          let s = agrees z (queued_at o) in
          let pqr = and-left (p && q && r) s w in
          let pq = and-left (p && q) r pqr in
          record {
            none_waits = held-none until steps a (Some o) ring h (true-eq (length ring.waiting) 0 (and-left p q pq));
            next = o;
            is_next = sym h.offer;
            after_start = true-lt z (queued_at o) (and-right p q pq);
            soon = true-lt (queued_at o) (z + tau) (and-right (p && q) r pqr);
            says_so = sym (same (queued_at o)) ∙ and-right (p && q && r) s w;
          }

  pub competes-may : (next : Option Offer) → IsHeld until steps a next ring → Competes tau until steps (length steps) z a → may_be_sent agrees tau z (length ring.waiting) next ≡ true
  competes-may next h c = elim c [
    | inl w ↦ (let l = true-lt (starts a.stream.id steps) (queues a.stream.id steps) w in let n = h.count in or-left (nat_lt 0 (length ring.waiting)) _ (lt-true 0 (length ring.waiting) (omega (arith, l, n))))
    | inr j ↦ (let e : next ≡ Some j.next = h.offer ∙ j.is_next in
        let z0 : length ring.waiting ≡ 0 = elim (cases_lt 0 (length ring.waiting)) [
          | inl l ↦ (let f : true ≡ false = sym (held-waits until steps a next ring h l) ∙ j.none_waits in absurd (cc))
          | inr l ↦ omega (arith, l)
        ] in
        or-right (nat_lt 0 (length ring.waiting)) (joins_with agrees tau z (length ring.waiting) next) (ap (joins_with agrees tau z (length ring.waiting)) e
        ∙ and-true ((length ring.waiting == 0) && nat_lt z (queued_at j.next) && nat_lt (queued_at j.next) (z + tau)) (agrees z (queued_at j.next))
        (and-true ((length ring.waiting == 0) && nat_lt z (queued_at j.next)) (nat_lt (queued_at j.next) (z + tau))
        (and-true (length ring.waiting == 0) (nat_lt z (queued_at j.next)) (eq-true (length ring.waiting) 0 z0) (lt-true z (queued_at j.next) j.after_start)) (lt-true (queued_at j.next) (z + tau) j.soon))
        (same (queued_at j.next) ∙ j.says_so)))
  ]
