use Rattle.std.proofs.Common.{ℕ, refl, sym, subst}
use Rattle.std.specs.Prelude.{Some, false}
use Rattle.cop_bus.specs.Bus.{Bus, ArePlaced, Starts, without_first}
use Rattle.cop_bus.specs.Queues.{IsLowest}
use Rattle.cop_bus.proofs.PlacedLemmas.{placed-set, waiting-sent}
use Rattle.cop_bus.proofs.bus.Bus.start_first.Goals as goal

pub invariant_of-self-in-None : goal.invariant_of-self-in-None
invariant_of-self-in-None c =
    let low : IsLowest c.self.inside.queues c.args.first = subst (λ (b : Bus). IsLowest b.rings c.args.first) (sym c.self.view_is) c.requires.first in
    subst (ArePlaced c.self.inside.places) (sym (c.take_bits-bits.ensures.rest low.ring low.here))
    (placed-set c.self.inside.places c.self.inside.queues c.args.first.place low.ring (without_first low.ring) low.here refl c.self.invariant)

pub returns-in-None : goal.returns-in-None
returns-in-None c =
    let low : IsLowest c.self.inside.queues c.args.first = subst (λ (b : Bus). IsLowest b.rings c.args.first) (sym c.self.view_is) c.requires.first in
    let old : Bus = record { rate = c.self.inside.rate; rings = c.self.inside.queues; running = c.self.inside.running } in
    subst (λ (b : Bus). Starts b c.args.now c.args.joiners.now (record { rate = c.self.inside.rate; rings = c.take_bits-bits.new.queues; running = Some c.transfer-in-None.result }) (Some (record { id = c.args.first.id; joined = false }))) c.self.view_is
    (subst (λ (t : ℕ × ℕ). Starts old c.args.now c.args.joiners.now (record { rate = c.self.inside.rate; rings = c.take_bits-bits.new.queues; running = Some t }) (Some (record { id = c.args.first.id; joined = false }))) (sym c.transfer-in-None.ensures)
    (waiting-sent old c.args.now c.args.joiners.now c.args.first c.take_bits-bits.new.queues c.take_bits-bits.result low c.in-None.ensures.none c.take_bits-bits.ensures.bits c.take_bits-bits.ensures.rest))
