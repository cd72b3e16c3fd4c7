use Rattle.cop_rta.proofs.StreamsKept.{none_kept}
use Rattle.cop_rta.proofs.sets.StreamSet.new.Goals as goal

pub invariant_of-result : goal.invariant_of-result
invariant_of-result c = none_kept _ _ _ c.new.ensures.items c.new-3.ensures.items c.new-2.ensures.items
