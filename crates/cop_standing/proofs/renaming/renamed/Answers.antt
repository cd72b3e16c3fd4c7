use Rattle.std.proofs.Common.{◌≡◌, length, get_or, ap, ◌∙◌, arith}
use Rattle.cop_plan.specs.Values.{id_of, timing_of}
use Rattle.cop_plan.proofs.RenameLemmas.{next_is_new, none_renamed, one_more, all_renamed}
use Rattle.cop_standing.proofs.renaming.renamed.Goals as goal

pub add-requires-clause-new : goal.add-requires-clause-new
add-requires-clause-new c =
    next_is_new c.args.set.now (length c.args.ids.now) (id_of c.args.ids.now) c.loop-k.k c.with_id.result.id c.loop-k.renamed c.requires.apart
    (rw c.streams-streams.ensures.items at c.streams-streams.ensures.distinct)
    (omega (arith, c.loop-k-test.true, ap length c.streams-streams.ensures.items)) c.loop-k.invariant (c.with_id.ensures.id ∙ rw c.streams-streams.ensures.items at c.id_at.ensures.id)

pub add-requires-clause-room : goal.add-requires-clause-room
add-requires-clause-room c = omega (arith, c.loop-k.invariant.count, c.loop-k-test.true, c.streams-streams.ensures.count)

pub loop-k-init : goal.loop-k-init
loop-k-init c = rw c.new-renamed.ensures (none_renamed c.args.set.now (length c.args.ids.now) (id_of c.args.ids.now))

pub loop-k-preserved : goal.loop-k-preserved
loop-k-preserved c =
    let here : c.index-streams-k.result ≡ get_or c.args.set.now c.loop-k.k c.index-streams-k.result = rw c.streams-streams.ensures.items at c.index-streams-k.is in
    rw c.in_ok-add.ensures
    (one_more c.args.set.now (length c.args.ids.now) (id_of c.args.ids.now) c.loop-k.k c.loop-k.renamed c.with_id.result c.index-streams-k.result
    (omega (arith, c.loop-k-test.true, ap length c.streams-streams.ensures.items)) c.loop-k.invariant
    (c.with_id.ensures.timing ∙ ap timing_of here) (c.with_id.ensures.id ∙ rw c.streams-streams.ensures.items at c.id_at.ensures.id))

pub returns : goal.returns
returns c =
    all_renamed c.args.set.now (length c.args.ids.now) (id_of c.args.ids.now) c.loop-k.k c.loop-k.renamed
    (omega (arith, c.loop-k-test.false, ap length c.streams-streams.ensures.items)) c.loop-k.invariant
