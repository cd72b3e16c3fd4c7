use Rattle.std.proofs.Common.{sym, ◌∙◌}
use Rattle.cop_tidy_reading.specs.SeenValues.{seen}
use Rattle.cop_tidy_reading.specs.Objects.{described_at}
use Rattle.cop_tidy_reading.proofs.GatheringLemmas.{next_at}
use Rattle.cop_tidy_reading.proofs.reading.objects_at.Goals as goal

pub loop-index-preserved : goal.loop-index-preserved
loop-index-preserved c =
    rw (c.in_ok-gather_all.ensures.found, c.in_ok-gather_all.ensures.asked, c.in_ok-read.ensures)
    (sym (next_at (λ list. list) (described_at (seen c.args.whole.now)) c.loop-index.earliest.question c.loop-index.objects.items c.args.indexes.now c.loop-index.index-index _ c.loop-index-test.true)
    ∙ c.loop-index.invariant)
