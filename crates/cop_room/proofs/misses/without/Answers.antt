use Rattle.std.proofs.Common.{◌≡◌, ◌<◌, Some, length, slice_get, get_or, ap, arith, refl}
use Rattle.std.proofs.lemmas.Option.{slice_get_read}
use Rattle.cop_room.proofs.SpareLemmas.{is_new, one_kept, one_skipped}
use Rattle.cop_room.proofs.misses.without.Goals as goal
use Rattle.cop_room.proofs.misses.without.Goals.{then-k-index+in_ok-add, else-k-index}

pub add-requires-clause-new : goal.add-requires-clause-new
add-requires-clause-new c =
    let set = c.args.set.now in
    let here : c.stream-item.result ≡ get_or set c.loop-k.k c.stream-item.result = rw c.streams-stream-items.ensures.items at c.stream-item.is in
    let lt : c.loop-k.k < length set = omega (arith, c.loop-k-test.true, ap length c.streams-stream-items.ensures.items) in
    is_new set c.args.index c.loop-k.others c.loop-k.k c.loop-k.invariant c.stream-item.result (rw c.streams-stream-items.ensures.items at c.streams-stream-items.ensures.distinct) lt
    (slice_get_read set (length set) c.loop-k.k c.stream-item.result refl lt here)

pub loop-k-preserved : goal.loop-k-preserved
loop-k-preserved c =
    let set = c.args.set.now in
    let here : c.stream-item.result ≡ get_or set c.loop-k.k c.stream-item.result = rw c.streams-stream-items.ensures.items at c.stream-item.is in
    let lt : c.loop-k.k < length set = omega (arith, c.loop-k-test.true, ap length c.streams-stream-items.ensures.items) in
    let at : slice_get set c.loop-k.k ≡ Some c.stream-item.result = slice_get_read set (length set) c.loop-k.k c.stream-item.result refl lt here in
    elim c.if-k-index.branch [
      | then-k-index+in_ok-add w ↦ rw (w.others-is, w.in_ok-add.ensures) (one_kept set c.args.index c.loop-k.others c.loop-k.k c.loop-k.invariant c.stream-item.result w.if-k-index.true at)
      | else-k-index w ↦ rw w.others-is (one_skipped set c.args.index c.loop-k.others c.loop-k.k c.loop-k.invariant w.if-k-index.false)
    ]
