use Rattle.std.proofs.Common.{◌∙◌, sym, arith}
use Rattle.cop_rta.specs.Solutions.{IsLeastSolution}
use Rattle.cop_rta.specs.Test.{StreamPlace, place_of, queueing_at, IsQueuedWithin}
use Rattle.cop_figures.proofs.DelayLemmas.{uncut, not_none, other_response, none_next, some_has}
use Rattle.cop_figures.proofs.delays.latest.Goals as goal

pub unreachable-requires-in_default-least : goal.unreachable-requires-in_default-least
unreachable-requires-in_default-least c =
    let p : StreamPlace = place_of c.args.busy.now in
    let queued : IsQueuedWithin p c.in-Some.time c.loop-number.number = (c.instances-number-end.ensures.queued c.loop-number.number).0 c.loop-number-test.true in
    let waits = c.each_instance_waits.ensures p c.in-Some.time c.loop-number.number c.requires.index c.in-Some.ensures.found queued in
    not_none (queueing_at p c.loop-number.number) waits.0 waits.1 (omega (arith, waits.2, c.in-Some.ensures.within)) (rw c.queueing.ensures at c.in_default-least.ensures.none)

pub loop-number-preserved : goal.loop-number-preserved
loop-number-preserved c =
    let p : StreamPlace = place_of c.args.busy.now in
    let waits : IsLeastSolution (queueing_at p c.loop-number.number) 0 c.in-Some-least.wait =
    uncut (queueing_at p c.loop-number.number) c.in-Some-least.wait (rw c.queueing.ensures at c.in-Some-least.ensures.found) c.in-Some-least.ensures.within in
    none_next p c.args.response c.loop-number.number c.loop-number.invariant
    (other_response p c.loop-number.number c.in-Some-least.wait c.args.response waits (λ same. c.if-response-from.false (c.response.ensures.value ∙ same ∙ sym c.from.ensures)))

pub unreachable-requires-2 : goal.unreachable-requires-2
unreachable-requires-2 c =
    some_has (place_of c.args.busy.now) c.args.response c.in-Some.time c.instances-number-end.result c.requires.greatest c.in-Some.ensures.found (λ q queued. (c.instances-number-end.ensures.queued q).1 queued)
    (λ k low is. c.loop-number.invariant k (omega (arith, low, c.loop-number-test.false)) is)
