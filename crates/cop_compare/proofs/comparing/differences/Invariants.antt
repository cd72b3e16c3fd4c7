use Rattle.std.proofs.Common.{◌+◌, length}
use Rattle.cop_compare.proofs.Walk.{Walked}
use Rattle.cop_compare.proofs.comparing.differences.Given as goal

abbrev pub invariant-loop-step : goal.invariant-loop-step
invariant-loop-step l = Walked l.old l.new l.old_rest l.new_rest l.all.items

abbrev pub decreases-loop-step : goal.decreases-loop-step
decreases-loop-step l = length l.old_rest + length l.new_rest
