use Rattle.cop_plan.specs.Values.{HaveDeadlines}
use Rattle.cop_plan.proofs.assigning.have_deadlines.Given as goal

abbrev pub invariant-loop-p : goal.invariant-loop-p
invariant-loop-p l = HaveDeadlines l.streams l.p
