use Rattle.std.proofs.Common.{rules, ◌≡◌, ◌<◌, ◌/◌, length, List, subst, sym, ap, ap₂, ◌∙◌, arith}
use Rattle.cop_rta.specs.declared.streams.Stream.{Stream}
use Rattle.cop_bus.specs.Rings.{rings_of}
use Rattle.cop_bus.specs.Queues.{AreQueued}
use Rattle.cop_bus.proofs.QueueLemmas.{none-queued}
use Rattle.cop_bus.proofs.queues.Queues.new.Goals as goal

pub invariant_of-result : goal.invariant_of-result
invariant_of-result c =
    let len = c.len.ensures in
    let room = c.in_ok-with_room.ensures.room in
    rw (c.in_ok-rings_of.ensures) (none-queued c.streams-streams.result.now c.in_ok-places.places.items c.in_ok-with_room.field-0 c.in_ok-places.ensures.listed c.in_ok-places.ensures.few (omega (arith, len, room)) c.in_ok-with_room.ensures.none)
