use Rattle.cop_plan.specs.Values.{ArePdosHigh}
use Rattle.cop_plan.proofs.assigning.are_pdos_high.Given as goal

abbrev pub invariant-loop-p : goal.invariant-loop-p
invariant-loop-p l = ArePdosHigh l.streams l.p
