use Rattle.std.proofs.Common.{refl, subst, sym, ◌++◌, ◌∷◌, []}
use Rattle.cop_bus.specs.Bus.{AreQueuedBy, Bus}
use Rattle.cop_bus.specs.Rings.{RingValue}
use Rattle.cop_bus.proofs.PlacedLemmas.{placed-queued, queued-more, queued-there}
use Rattle.cop_bus.proofs.bus.Bus.queue.Goals as goal

pub invariant_of-self : goal.invariant_of-self
invariant_of-self c =
    placed-queued c.self.inside.places c.self.inside.queues c.queue.new.self c.in-Some.place.now (λ (r : RingValue). record { id = r.id; waiting = r.waiting ++ c.args.instance ∷ []; most = r.most }) c.queue.result (λ r. refl)
    (c.self.invariant.within c.args.instance.id c.in-Some.place.now (sym c.in-Some.ensures.value)) c.queue.ensures.ok c.queue.ensures.err c.self.invariant

pub returns-in-Some-clause-ok : goal.returns-in-Some-clause-ok
returns-in-Some-clause-ok c place r e q =
    queued-there c.self.inside.rate c.self.inside.places c.self.inside.queues c.queue.new.self c.self.inside.running c.args.self.now c.in-Some.place.now place c.args.instance.id r
    (λ (r : RingValue). record { id = r.id; waiting = r.waiting ++ c.args.instance ∷ []; most = r.most }) c.queue.result c.self.view_is c.self.invariant (sym c.in-Some.ensures.value) e q c.queue.ensures.ok

pub returns-in-Some-clause-queued : goal.returns-in-Some-clause-queued
returns-in-Some-clause-queued c t l h =
    queued-more c.self.inside.queues c.queue.new.self c.in-Some.place.now c.args.instance c.queue.result (c.self.invariant.within c.args.instance.id c.in-Some.place.now (sym c.in-Some.ensures.value))
    c.queue.ensures.ok c.queue.ensures.err t l (subst (λ (b : Bus). AreQueuedBy b.rings t) (sym c.self.view_is) h)
