use Rattle.std.proofs.Common.{◌+◌, map, drop, ap, ◌∙◌}
use Rattle.cop_tidy_reading.specs.Questions.{all_of, asked_after}
use Rattle.cop_tidy_reading.specs.Seen.{said_of}
use Rattle.cop_tidy_reading.specs.Lists.{check_header}
use Rattle.cop_tidy_reading.proofs.LoopLemmas.{next_of, none_of, asked_next, asked_last}
use Rattle.cop_tidy_reading.proofs.lists.check_unlisted.Goals as goal

pub loop-item-preserved : goal.loop-item-preserved
loop-item-preserved c =
    let next = next_of said_of c.items-items.result.now c.loop-item.item-index _ c.loop-item-test.true in
    asked_next c.loop-item.earliest.question c.note.new.self.question (check_header c.args.named.now.keys c.args.lacks_entry) _
    (map said_of (drop (c.loop-item.item-index + 1) c.items-items.result.now)) (map said_of (drop c.loop-item.item-index c.items-items.result.now)) _
    (c.note.ensures.after ∙ ap (asked_after c.loop-item.earliest.question) c.check_header.ensures) next c.loop-item.invariant

pub returns : goal.returns
returns c =
    let none = none_of said_of c.items-items.result.now c.loop-item.item-index c.loop-item-test.false in
    let all = c.items-items.ensures in
    let whole = rw all at c.loop-item.invariant in
    c.check.ensures
    ∙ asked_last c.loop-item.earliest.question (check_header c.args.named.now.keys c.args.lacks_entry) _ (all_of (map (check_header c.args.named.now.keys c.args.lacks_entry) c.args.contents.now)) none whole
