use Rattle.std.proofs.Common.{◌≡◌, ◌∙◌, ◌<◌, length, get_or, ap, arith, refl}
use Rattle.std.proofs.lemmas.Option.{slice_get_read}
use Rattle.cop_rta.specs.Entries.{Entry}
use Rattle.cop_room.specs.Numbers.{change_of}
use Rattle.cop_room.proofs.NumberLemmas.{same_id}
use Rattle.cop_room.proofs.TrialLemmas.{one_changed, changed_is_new}
use Rattle.cop_room.proofs.changing.with_number.Goals as goal

pub add-requires-clause-new : goal.add-requires-clause-new
add-requires-clause-new c =
    let here : c.stream-item.result ≡ get_or c.args.set.now c.loop-k.k c.stream-item.result = rw c.streams-stream-items.ensures.items at c.stream-item.is in
    let lt : c.loop-k.k < length c.args.set.now = omega (arith, c.loop-k-test.true, ap length c.streams-stream-items.ensures.items) in
    changed_is_new (change_of c.args.number c.args.place) c.args.set.now c.loop-k.other c.loop-k.k c.stream-item.result c.changed.result
    (λ k e. same_id c.args.number c.args.place k e) (rw c.streams-stream-items.ensures.items at c.streams-stream-items.ensures.distinct) c.loop-k.invariant
    (slice_get_read c.args.set.now (length c.args.set.now) c.loop-k.k c.stream-item.result refl lt here)
    (ap (λ (e : Entry). e.id) c.changed.ensures ∙ same_id c.args.number c.args.place c.loop-k.k _)

pub add-requires-clause-room : goal.add-requires-clause-room
add-requires-clause-room c = omega (arith, c.loop-k.invariant.as_many, c.loop-k-test.true, c.streams-stream-items.ensures.count)

pub loop-k-preserved : goal.loop-k-preserved
loop-k-preserved c =
    let here : c.stream-item.result ≡ get_or c.args.set.now c.loop-k.k c.stream-item.result = rw c.streams-stream-items.ensures.items at c.stream-item.is in
    let lt : c.loop-k.k < length c.args.set.now = omega (arith, c.loop-k-test.true, ap length c.streams-stream-items.ensures.items) in
    rw c.in_ok-add.ensures
    (one_changed (change_of c.args.number c.args.place) c.args.set.now c.loop-k.other c.loop-k.k c.stream-item.result c.changed.result c.loop-k.invariant
    (slice_get_read c.args.set.now (length c.args.set.now) c.loop-k.k c.stream-item.result refl lt here) c.changed.ensures)
