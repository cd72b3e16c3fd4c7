use Rattle.std.proofs.Common.{arith}
use Rattle.cop_sim.specs.Stages.{at_hand}
use Rattle.cop_sim.proofs.Asking.{unobeyed}
use Rattle.cop_sim.proofs.turns.queue_offer.Goals as goal

pub returns-clause-fault : goal.returns-clause-fault
returns-clause-fault g c =
    unobeyed g.B.Behaviour.offer g.S.Sink.takes c.args.until c.args.streams.now c.args.due (at_hand c.args.stage.now) c.args.behaviours.now.items c.args.sink.now c.queue_instance.new.sink c.index-streams-place.result c.queue_instance.new.stage.queued.items c.queue_instance.new.stage.syncs c.ask_at.result
    c.index-streams-place.is (omega (arith, c.requires.place, c.requires.sized.queued)) c.in_ok-queue_instance.ensures.queued c.in_ok-queue_instance.ensures.syncs
    (λ l. c.in_ok-queue_instance.ensures.taken (let u = c.requires.until in omega (arith, l, u))) c.ask_at.ensures.fault
