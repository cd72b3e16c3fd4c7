use Rattle.cop_compare.proofs.Walk.{at_start, goes_on, at_end}
use Rattle.cop_compare.proofs.comparing.differences.Goals as goal

pub loop-step-init : goal.loop-step-init
loop-step-init c = at_start _ _ _ _ _ c.entries-old_rest.ensures.sorted c.entries-new_rest.ensures.sorted c.entries-old_rest.ensures.value c.entries-new_rest.ensures.value c.new-all.ensures.items

pub loop-step-preserved : goal.loop-step-preserved
loop-step-preserved c = goes_on _ _ _ _ _ _ _ _ _ c.loop-step.invariant c.in-Some.ensures c.behind-old_rest.ensures c.behind-new_rest.ensures c.in_ok-add.ensures

pub returns : goal.returns
returns c = at_end _ _ _ _ _ c.loop-step.invariant c.in_default.ensures
