use Rattle.cop_tidy_reading.proofs.PartLemmas.{in_order}
use Rattle.cop_tidy_reading.proofs.contents.bounds_of.Goals as goal

pub returns-clause-order : goal.returns-clause-order
returns-clause-order c =
    in_order c.args.items.now c.args.number _ _ c.count_before-before.ensures.bound c.count_before-before.ensures.parted c.count_upto-upto.ensures.parted
