use Rattle.std.proofs.Common.{◌≡◌, ◌<◌, ◌∷◌, false, length, take, get_or, ap, sym, subst, arith}
use Rattle.cop_rta.specs.declared.streams.Stream.{Stream}
use Rattle.cop_rta.specs.Streams.{has_id}
use Rattle.cop_room.proofs.RoomLemmas.{next_is_new}
use Rattle.cop_room.proofs.more.with_one.Goals as goal

pub add-requires-in-loop-stream-clause-new : goal.add-requires-in-loop-stream-clause-new
add-requires-in-loop-stream-clause-new c =
    let index = c.loop-stream.stream-index in
    let streams = c.args.set.now in
    let here : c.stream-item.result ≡ get_or streams index c.stream-item.result = rw c.streams-stream-items.ensures.items at c.stream-item.is in
    let lt : index < length streams = omega (arith, c.loop-stream-test.true, ap length c.streams-stream-items.ensures.items) in
    rw c.loop-stream.invariant
    (subst (λ (s : Stream). has_id (c.args.one ∷ take index streams) s.id ≡ false) (sym here)
    (next_is_new streams c.args.one c.stream-item.result index (rw c.streams-stream-items.ensures.items at c.streams-stream-items.ensures.distinct) lt c.requires.new))
