use Rattle.std.proofs.Common.{◌≡◌, refl, subst}
use Rattle.cop_room.specs.Room.{next_id, IsOneMore}
use Rattle.cop_room.proofs.RoomLemmas.{more_room}
use Rattle.cop_room.proofs.more.room_for_more.Goals as goal

pub returns : goal.returns
returns c =
    let id : c.next_id-id.result ≡ next_id c.args.set.now c.args.pdos = rw c.streams.ensures.items at c.next_id-id.ensures in
    more_room c.args.rate c.args.set.now c.args.pdos c.one_more.result c.in_ok-least.least (c.if-not-has_place.ensures.0 refl)
    (subst (λ n. IsOneMore n c.one_more.result) id c.one_more.ensures) (rw c.in_ok-more.ensures at c.in_ok-least.ensures.exact)
