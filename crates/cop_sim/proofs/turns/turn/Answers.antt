use Rattle.std.proofs.Common.{◌∙◌, ℕ, List, Some, None, slice_get, refl, ap, subst}
use Rattle.cop_frame.specs.Rate.{ticks_of}
use Rattle.cop_rta.specs.declared.streams.Stream.{Stream}
use Rattle.cop_sim.specs.declared.playing.Event.TheVariants.{End, Queue, Start, Nothing}
use Rattle.cop_sim.specs.Stages.{at_hand, IsQueued, QueueFault, IsEnded, EndFault, IsStarted}
use Rattle.cop_sim.proofs.Turning.{turned-sink, end-fault, turned-end, turned-nothing, turned-queue, queue-fault, chosen-some, turned-start, theirs, event-here, chosen-here, err-turned}
use Rattle.cop_sim.proofs.turns.turn.Goals as goal

pub returns-in_err-end_transfer-in-End-clause-turned :
    goal.returns-in_err-end_transfer-in-End-clause-turned
returns-in_err-end_transfer-in-End-clause-turned g c firsts steps at short =
    err-turned g.B.Behaviour.offer g.B.Behaviour.agrees g.S.Sink.takes c.args.plan.now c.args.until firsts c.end_transfer.new.behaviours.items (at_hand c.end_transfer.new.stage) (g.S.Sink.has_failed c.end_transfer.new.sink) c.args.sink.now c.end_transfer.new.sink steps c.from_residual.result _ c.from_residual.ensures.1
    (end-fault g.B.Behaviour.offer g.B.Behaviour.agrees g.S.Sink.takes c.args.plan.now c.args.until firsts c.args.behaviours.now.items (at_hand c.args.stage.now) steps at c.first-first.result (c.first-first.ensures.first c.args.plan.now.streams at.ids_are) c.in-End.at c.in-End.id (event-here c.args.stage.now.running c.first-first.result c.any_waits.result c.args.stage.now.waiting c.args.stage.now.now c.args.until (End c.in-End.id c.in-End.at) c.any_waits.ensures c.in-End.ensures) (g.S.Sink.has_failed c.end_transfer.new.sink) c.args.sink.now c.end_transfer.new.sink _
    (subst (λ (ss : List Stream). EndFault g.B.Behaviour.offer g.S.Sink.takes c.args.until ss c.in-End.at c.in-End.id (at_hand c.args.stage.now) c.args.behaviours.now.items c.args.sink.now c.end_transfer.new.sink c.in_err-end_transfer-in-End.field-0.0) (c.streams-streams.ensures.items ∙ c.streams.ensures.items) c.in_err-end_transfer-in-End.ensures.fault)
    c.in_err-end_transfer-in-End.ensures.failed)

pub returns-in_err-queue_offer-in-Queue-clause-turned :
    goal.returns-in_err-queue_offer-in-Queue-clause-turned
returns-in_err-queue_offer-in-Queue-clause-turned g c firsts steps at short =
    err-turned g.B.Behaviour.offer g.B.Behaviour.agrees g.S.Sink.takes c.args.plan.now c.args.until firsts c.queue_offer.new.behaviours.items (at_hand c.queue_offer.new.stage) (g.S.Sink.has_failed c.queue_offer.new.sink) c.args.sink.now c.queue_offer.new.sink steps c.from_residual-in_err-queue_offer-in-Queue.result _ c.from_residual-in_err-queue_offer-in-Queue.ensures.1
    (queue-fault g.B.Behaviour.offer g.B.Behaviour.agrees g.S.Sink.takes c.args.plan.now c.args.until firsts c.args.behaviours.now.items (at_hand c.args.stage.now) steps at c.first-first.result (c.first-first.ensures.first c.args.plan.now.streams at.ids_are) c.in-Queue.due (event-here c.args.stage.now.running c.first-first.result c.any_waits.result c.args.stage.now.waiting c.args.stage.now.now c.args.until (Queue c.in-Queue.due) c.any_waits.ensures c.in-Queue.ensures) short (g.S.Sink.has_failed c.queue_offer.new.sink) c.args.sink.now c.queue_offer.new.sink _
    (subst (λ (ss : List Stream). QueueFault g.B.Behaviour.offer g.S.Sink.takes c.args.until ss c.in-Queue.due (at_hand c.args.stage.now) c.args.behaviours.now.items c.args.sink.now c.queue_offer.new.sink c.in_err-queue_offer-in-Queue.field-0.0) (c.streams-streams.ensures.items ∙ c.streams.ensures.items) c.in_err-queue_offer-in-Queue.ensures.fault)
    c.in_err-queue_offer-in-Queue.ensures.failed)

pub returns-in_err-start_transfer-in-Some-clause-turned :
    goal.returns-in_err-start_transfer-in-Some-clause-turned
returns-in_err-start_transfer-in-Some-clause-turned g c firsts steps at short =
    err-turned g.B.Behaviour.offer g.B.Behaviour.agrees g.S.Sink.takes c.args.plan.now c.args.until firsts c.args.behaviours.now.items (at_hand c.start_transfer.new.stage) (g.S.Sink.has_failed c.start_transfer.new.sink) c.args.sink.now c.start_transfer.new.sink steps c.from_residual-in_err-start_transfer-in-Some.result _ c.from_residual-in_err-start_transfer-in-Some.ensures.1
    (turned-sink g.B.Behaviour.offer g.B.Behaviour.agrees g.S.Sink.takes c.args.plan.now c.args.until firsts c.args.behaviours.now.items (at_hand c.args.stage.now) steps at (g.S.Sink.has_failed c.start_transfer.new.sink) c.args.sink.now c.start_transfer.new.sink _ c.in_err-start_transfer-in-Some.ensures.fault c.in_err-start_transfer-in-Some.ensures.failed)

pub returns-in-None-clause-turned : goal.returns-in-None-clause-turned
returns-in-None-clause-turned g c firsts steps at short =
    absurd (chosen-some g.B.Behaviour.offer g.B.Behaviour.agrees g.S.Sink.takes c.args.plan.now c.args.until firsts c.args.behaviours.now.items (at_hand c.args.stage.now) steps at c.first-first.result (c.first-first.ensures.first c.args.plan.now.streams at.ids_are) (event-here c.args.stage.now.running c.first-first.result c.any_waits.result c.args.stage.now.waiting c.args.stage.now.now c.args.until Start c.any_waits.ensures c.in-Start.ensures)
    (chosen-here g.B.Behaviour.agrees c.args.behaviours.now.items c.streams-streams.result.now c.args.plan.now.streams c.args.stage.now.offers.next c.first-first.result c.args.stage.now.waiting c.ticks_per_bit-ticks.result (ticks_of c.args.plan.now.rate) c.args.stage.now.now None (c.streams-streams.ensures.items ∙ c.streams.ensures.items) (c.ticks_per_bit-ticks.ensures.ticks ∙ ap ticks_of c.rate.ensures) c.in-None.ensures.chosen (c.first-first.ensures.first c.args.plan.now.streams at.ids_are) (theirs g.B.Behaviour.offer g.B.Behaviour.agrees g.S.Sink.takes c.args.plan.now c.args.until firsts c.args.behaviours.now.items (at_hand c.args.stage.now) steps at)))

pub returns-in-Nothing-clause-turned : goal.returns-in-Nothing-clause-turned
returns-in-Nothing-clause-turned g c firsts steps at short =
    turned-nothing g.B.Behaviour.offer g.B.Behaviour.agrees g.S.Sink.takes c.args.plan.now c.args.until firsts c.args.behaviours.now.items (at_hand c.args.stage.now) steps at c.first-first.result (c.first-first.ensures.first c.args.plan.now.streams at.ids_are) c.args.behaviours.now.items (at_hand c.args.stage.now) (g.S.Sink.has_failed c.args.sink.now) c.args.sink.now (event-here c.args.stage.now.running c.first-first.result c.any_waits.result c.args.stage.now.waiting c.args.stage.now.now c.args.until Nothing c.any_waits.ensures c.in-Nothing.ensures)

pub returns-in_ok-end_transfer-in-End-clause-turned :
    goal.returns-in_ok-end_transfer-in-End-clause-turned
returns-in_ok-end_transfer-in-End-clause-turned g c firsts steps at short =
    turned-end g.B.Behaviour.offer g.B.Behaviour.agrees g.S.Sink.takes c.args.plan.now c.args.until firsts c.args.behaviours.now.items (at_hand c.args.stage.now) steps at c.first-first.result (c.first-first.ensures.first c.args.plan.now.streams at.ids_are) c.in-End.at c.in-End.id (event-here c.args.stage.now.running c.first-first.result c.any_waits.result c.args.stage.now.waiting c.args.stage.now.now c.args.until (End c.in-End.id c.in-End.at) c.any_waits.ensures c.in-End.ensures)
    c.end_transfer.new.behaviours.items (at_hand c.end_transfer.new.stage) (g.S.Sink.has_failed c.end_transfer.new.sink) c.args.sink.now c.end_transfer.new.sink
    (subst (λ (ss : List Stream). IsEnded g.B.Behaviour.offer g.B.Behaviour.agrees c.args.until ss c.in-End.at c.in-End.id (at_hand c.args.stage.now) (at_hand c.end_transfer.new.stage) c.args.behaviours.now.items c.end_transfer.new.behaviours.items) (c.streams-streams.ensures.items ∙ c.streams.ensures.items) c.in_ok-end_transfer-in-End.ensures.stage)
    c.in_ok-end_transfer-in-End.ensures.taken

pub returns-in_ok-queue_offer-in-Queue-clause-turned :
    goal.returns-in_ok-queue_offer-in-Queue-clause-turned
returns-in_ok-queue_offer-in-Queue-clause-turned g c firsts steps at short =
    turned-queue g.B.Behaviour.offer g.B.Behaviour.agrees g.S.Sink.takes c.args.plan.now c.args.until firsts c.args.behaviours.now.items (at_hand c.args.stage.now) steps at c.first-first.result (c.first-first.ensures.first c.args.plan.now.streams at.ids_are) c.in-Queue.due (event-here c.args.stage.now.running c.first-first.result c.any_waits.result c.args.stage.now.waiting c.args.stage.now.now c.args.until (Queue c.in-Queue.due) c.any_waits.ensures c.in-Queue.ensures) short (at_hand c.queue_offer.new.stage) c.queue_offer.new.behaviours.items (g.S.Sink.has_failed c.queue_offer.new.sink) c.args.sink.now c.queue_offer.new.sink
    (subst (λ (ss : List Stream). IsQueued g.B.Behaviour.offer g.B.Behaviour.agrees c.args.until ss c.in-Queue.due (at_hand c.args.stage.now) (at_hand c.queue_offer.new.stage) c.args.behaviours.now.items c.queue_offer.new.behaviours.items) (c.streams-streams.ensures.items ∙ c.streams.ensures.items) c.in_ok-queue_offer-in-Queue.ensures.queued)
    (λ o k e f. c.in_ok-queue_offer-in-Queue.ensures.obeys o k e (ap (λ (ss : List Stream). slice_get ss c.in-Queue.due.place) (c.streams-streams.ensures.items ∙ c.streams.ensures.items) ∙ f))
    c.in_ok-queue_offer-in-Queue.ensures.taken

pub returns-in_ok-start_transfer-in-Some-clause-turned :
    goal.returns-in_ok-start_transfer-in-Some-clause-turned
returns-in_ok-start_transfer-in-Some-clause-turned g c firsts steps at short =
    turned-start g.B.Behaviour.offer g.B.Behaviour.agrees g.S.Sink.takes c.args.plan.now c.args.until firsts c.args.behaviours.now.items (at_hand c.args.stage.now) steps at c.first-first.result (c.first-first.ensures.first c.args.plan.now.streams at.ids_are) (event-here c.args.stage.now.running c.first-first.result c.any_waits.result c.args.stage.now.waiting c.args.stage.now.now c.args.until Start c.any_waits.ensures c.in-Start.ensures) c.in-Some.sent
    (chosen-here g.B.Behaviour.agrees c.args.behaviours.now.items c.streams-streams.result.now c.args.plan.now.streams c.args.stage.now.offers.next c.first-first.result c.args.stage.now.waiting c.ticks_per_bit-ticks.result (ticks_of c.args.plan.now.rate) c.args.stage.now.now (Some c.in-Some.sent) (c.streams-streams.ensures.items ∙ c.streams.ensures.items) (c.ticks_per_bit-ticks.ensures.ticks ∙ ap ticks_of c.rate.ensures) c.in-Some.ensures.chosen (c.first-first.ensures.first c.args.plan.now.streams at.ids_are) (theirs g.B.Behaviour.offer g.B.Behaviour.agrees g.S.Sink.takes c.args.plan.now c.args.until firsts c.args.behaviours.now.items (at_hand c.args.stage.now) steps at))
    (at_hand c.start_transfer.new.stage) c.args.behaviours.now.items (g.S.Sink.has_failed c.start_transfer.new.sink) c.args.sink.now c.start_transfer.new.sink refl
    (subst (λ (t : ℕ). IsStarted t c.in-Some.sent (at_hand c.args.stage.now) (at_hand c.start_transfer.new.stage)) (c.ticks_per_bit-ticks.ensures.ticks ∙ ap ticks_of c.rate.ensures) c.in_ok-start_transfer-in-Some.ensures.started)
    c.in_ok-start_transfer-in-Some.ensures.taken
