use Rattle.std.proofs.Common.{List, [], replicate, length, map, refl, subst, sym, rules}
use Rattle.std.specs.Prelude.{Option}
use Rattle.cop_bus.specs.Rings.{rings_of}
use Rattle.cop_sim.specs.declared.behaviours.Offer.{Offer}
use Rattle.cop_sim.specs.declared.faults.SimFault.TheVariants.{Memory}
use Rattle.cop_sim.specs.Hands.{IsEarly}
use Rattle.cop_sim.specs.Seats.{next_at}
use Rattle.cop_rta.specs.declared.streams.Stream.{Stream}
use Rattle.cop_sim.specs.Stages.{AtHand, AreFirst, FirstFault, IsAt}
use Rattle.cop_sim.proofs.Beginning.{begun-of, zeros-long, zeros-each, err-if}
use Rattle.cop_sim.proofs.EarlyLemmas.{first-early}
use Rattle.cop_sim.proofs.playing.first_stage.Goals as goal

pub returns-in_err-next-clause-fault : goal.returns-in_err-next-clause-fault
returns-in_err-next-clause-fault g c = err-if c.from_residual.result _ c.in_err-next.field-0.0 c.from_residual.ensures.1
    (subst (λ (ss : List Stream). FirstFault g.B.Behaviour.offer c.args.until ss c.args.behaviours.now.items c.in_err-next.field-0.0) c.streams-streams.ensures.items c.in_err-next.ensures.fault)

pub stage_of-requires-clause-early : goal.stage_of-requires-clause-early
stage_of-requires-clause-early g c i =
    subst (λ (xs : List (Option Offer)). IsEarly (next_at xs i)) (sym c.deref.ensures.value)
    (first-early g.B.Behaviour.offer g.B.Behaviour.agrees c.args.until c.streams-streams.result.now c.args.behaviours.now.items c.first_offers.new.behaviours.items c.in_ok-next.next.items c.in_ok-next.ensures.first (search rules) c.requires.until i)

pub returns-in_err-stage-clause-fault : goal.returns-in_err-stage-clause-fault
returns-in_err-stage-clause-fault g c = err-if c.from_residual-in_err-stage.result _ Memory c.from_residual-in_err-stage.ensures.1 tt

pub returns-clause-begun : goal.returns-clause-begun
returns-clause-begun g c plan e planned distinct =
    let streams = c.args.set.now in
    let next : List (Option Offer) = c.deref.result.now in
    let first : AreFirst g.B.Behaviour.offer g.B.Behaviour.agrees c.args.until streams c.args.behaviours.now.items c.first_offers.new.behaviours.items c.in_ok-next.next.items (length streams) =
    subst (λ (ss : List Stream). AreFirst g.B.Behaviour.offer g.B.Behaviour.agrees c.args.until ss c.args.behaviours.now.items c.first_offers.new.behaviours.items c.in_ok-next.next.items (length ss)) c.streams-streams.ensures.items c.in_ok-next.ensures.first in
    subst (λ (h : AtHand). IsAt g.B.Behaviour.offer g.B.Behaviour.agrees plan c.args.until c.args.behaviours.now.items c.first_offers.new.behaviours.items h []) (sym c.in_ok-stage.ensures)
    (begun-of g.B.Behaviour.offer g.B.Behaviour.agrees plan c.args.until c.args.behaviours.now.items c.first_offers.new.behaviours.items next (replicate (length streams) 0) streams (map (λ k. k.id) streams) (rings_of streams)
    e planned distinct c.requires.count
    (subst (λ (xs : List (Option Offer)). AreFirst g.B.Behaviour.offer g.B.Behaviour.agrees c.args.until streams c.args.behaviours.now.items c.first_offers.new.behaviours.items xs (length streams)) (sym c.deref.ensures.value) first)
    refl refl (zeros-long (length streams)) (zeros-each (length streams)))
