use Rattle.cop_eds.proofs.MixLemmas.{one_more}
use Rattle.cop_eds.proofs.tickets.mixed_each.Goals as goal

pub loop-first-preserved : goal.loop-first-preserved
loop-first-preserved c = one_more c.loop-first.sum _ _ _ _ _ _ c.in-Some.ensures.cases.0 c.from-low.ensures c.stirred-sum.ensures c.loop-first.invariant
