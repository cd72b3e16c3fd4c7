use Rattle.cop_room.proofs.RoomLemmas.{one_more_row}
use Rattle.cop_room.proofs.rooms.rooms_of_rows.Goals as goal

pub loop-row-preserved : goal.loop-row-preserved
loop-row-preserved c =
    rw c.in_ok-push.ensures.items
    (one_more_row c.args.rate c.args.set.now c.args.pdos c.loop-row.row c.loop-row.rows.items c.in_ok-room_of_row.field-0 c.loop-row.invariant.0 c.loop-row.invariant.1 c.in_ok-room_of_row.ensures)
