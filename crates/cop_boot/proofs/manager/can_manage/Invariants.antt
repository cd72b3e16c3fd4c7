use Rattle.cop_boot.proofs.PlanLemmas.{LeavesAll}
use Rattle.cop_boot.proofs.manager.can_manage.Given as goal

abbrev pub invariant-loop-node : goal.invariant-loop-node
invariant-loop-node l = record {
  can : (goal.iterator-loop-node).can_next l.node-iterator;
  finite : (goal.iterator-loop-node).is_finite l.node-iterator;
  leaves : LeavesAll l.fn.plan.entries l.node-iterator;
}
