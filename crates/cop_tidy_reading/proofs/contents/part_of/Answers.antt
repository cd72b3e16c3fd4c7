use Rattle.cop_tidy_reading.proofs.PartLemmas.{part_is}
use Rattle.cop_tidy_reading.proofs.contents.part_of.Goals as goal

pub returns : goal.returns
returns c = part_is c.args.items.now c.args.number _ _ c.bounds_of-before.ensures.order c.bounds_of-before.ensures.before c.bounds_of-before.ensures.upto
