use Rattle.std.proofs.Common.{sym, ap, ◌∙◌}
use Rattle.std.specs.List.{flat_map}
use Rattle.cop_tidy_reading.specs.SeenLists.{with_all}
use Rattle.cop_tidy_reading.specs.Lists.{found_index}
use Rattle.cop_tidy_reading.proofs.LoopLemmas.{none_at}
use Rattle.cop_tidy_reading.proofs.ListLemmas.{rising_all}
use Rattle.cop_tidy_reading.proofs.lists.named_in.Goals as goal

pub returns : goal.returns
returns c =
    let none = none_at c.args.found.now c.loop-index.index-index c.loop-index-test.false in
    ap (λ xs. with_all c.loop-index.named.keys (flat_map found_index xs)) (sym none) ∙ c.loop-index.invariant ∙ rising_all (flat_map found_index c.args.found.now)
