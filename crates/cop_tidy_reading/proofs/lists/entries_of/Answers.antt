use Rattle.std.proofs.Common.{◌++◌, map, sym, ap, ◌∙◌, append-nil}
use Rattle.std.specs.List.{flat_map}
use Rattle.cop_tidy_reading.specs.Seen.{said_of}
use Rattle.cop_tidy_reading.specs.SeenLists.{entry_seen}
use Rattle.cop_tidy_reading.specs.Lists.{entry_at}
use Rattle.cop_tidy_reading.proofs.LoopLemmas.{none_of}
use Rattle.cop_tidy_reading.proofs.ListLemmas.{entries_in}
use Rattle.cop_tidy_reading.proofs.lists.entries_of.Goals as goal

pub returns : goal.returns
returns c =
    let known = map entry_seen c.loop-item.entries.items in
    let none = none_of said_of c.part-part.result.now c.loop-item.item-index c.loop-item-test.false in
    sym (append-nil known) ∙ ap (λ xs. known ++ flat_map (entry_at c.args.contents.now) xs) (sym none) ∙ c.loop-item.invariant
    ∙ entries_in c.args.contents.now (map said_of c.part-part.result.now) c.args.section.number c.part-part.ensures
