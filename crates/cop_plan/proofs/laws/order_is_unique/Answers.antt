use Rattle.cop_plan.proofs.RangeUniqueLemmas.{unique_over_ranges}
use Rattle.cop_plan.proofs.laws.order_is_unique.Goals as goal

pub returns : goal.returns
returns c = λ rate streams pdos ids others s a b p h. unique_over_ranges rate streams pdos ids others s.count a b p h
