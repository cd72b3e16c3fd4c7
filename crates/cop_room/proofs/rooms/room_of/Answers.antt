use Rattle.std.proofs.Common.{IfOk, length}
use Rattle.cop_rta.specs.Streams.{AreDistinct}
use Rattle.cop_room.specs.Room.{IsRoom}
use Rattle.cop_room.proofs.WholeLemmas.{limits_if}
use Rattle.cop_room.proofs.rooms.room_of.Goals as goal

pub returns-clause-limits : goal.returns-clause-limits
returns-clause-limits c =
    let plan = c.args.plan.now in
    let planned = c.streams-set.ensures.planned in
    let room : IfOk c.room_of_streams.result (IsRoom plan.rate plan.streams (length plan.ids)) = rw (c.rate.ensures, c.streams-set.ensures.items, c.ids-pdos.ensures.ids) at c.room_of_streams.ensures in
    let distinct : AreDistinct plan.streams = rw (c.streams.ensures.items, c.streams-set.ensures.items) at c.streams.ensures.distinct in
    λ whole. limits_if plan.rate plan.streams (length plan.ids) c.streams-set.ensures.on_time whole planned.synced distinct planned.count c.room_of_streams.result room
