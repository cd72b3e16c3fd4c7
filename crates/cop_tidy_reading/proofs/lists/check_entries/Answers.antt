use Rattle.std.proofs.Common.{◌+◌, drop, ◌∙◌}
use Rattle.cop_tidy_reading.proofs.LoopLemmas.{next_at, none_at, asked_more}
use Rattle.cop_tidy_reading.proofs.ListLemmas.{found_asks}
use Rattle.cop_tidy_reading.proofs.lists.check_entries.Goals as goal

pub loop-index-preserved : goal.loop-index-preserved
loop-index-preserved c =
    let next = next_at c.args.found.now c.loop-index.index-index _ c.loop-index-test.true in
    asked_more c.loop-index.earliest.question c.note.new.self.question _ (drop (c.loop-index.index-index + 1) c.args.found.now) (drop c.loop-index.index-index c.args.found.now) _
    c.note.ensures.after next c.loop-index.invariant

pub returns : goal.returns
returns c =
    let none = none_at c.args.found.now c.loop-index.index-index c.loop-index-test.false in
    c.check.ensures ∙ found_asks c.loop-index.earliest.question _ c.args.found.now none c.loop-index.invariant
