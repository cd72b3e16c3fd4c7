use Rattle.std.proofs.Common.{sym, ◌∙◌}
use Rattle.cop_tidy_reading.proofs.GatheringLemmas.{next_among_at}
use Rattle.cop_tidy_reading.proofs.compact.check_part.Goals as goal

pub loop-item-preserved : goal.loop-item-preserved
loop-item-preserved c =
    rw (c.note.ensures.after, c.check_item.ensures)
    (sym (next_among_at c.args.compact c.loop-item.earliest.question c.args.part.now c.loop-item.item-index _ c.loop-item-test.true) ∙ c.loop-item.invariant)
