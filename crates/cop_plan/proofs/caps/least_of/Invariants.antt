use Rattle.cop_plan.proofs.LeastCaps.{AreLeastSoFar}
use Rattle.cop_plan.proofs.caps.least_of.Given as goal

abbrev pub invariant-loop-k : goal.invariant-loop-k
invariant-loop-k l = AreLeastSoFar l.streams l.caps l.margin l.k l.least
