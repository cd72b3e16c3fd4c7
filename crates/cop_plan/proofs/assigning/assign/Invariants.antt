use Rattle.std.proofs.Common.{◌≤◌, ◌+◌, ◌*◌, length}
use Rattle.cop_plan.specs.Plans.{AreRefusals, members_in, filled_in}
use Rattle.cop_plan.proofs.AssignLemmas.{IsEarlier}
use Rattle.cop_plan.proofs.assigning.assign.Given as goal

abbrev pub invariant-loop-rate : goal.invariant-loop-rate
invariant-loop-rate l = record {
  refused : AreRefusals l.set l.pdos (IsEarlier l.rates l.rate-index) l.refusals;
  tried : length l.refusals ≤ l.rate-index;
  rises : l.fn.count.trials ≤ l.count.trials;
  least : l.fn.count.trials + members_in l.refusals ≤ l.count.trials;
  busy_rises : l.fn.count.busy ≤ l.count.busy;
  busy : l.count.busy ≤ l.fn.count.busy + length l.refusals * (3 * l.pdos);
  busy_least : 1 ≤ l.pdos → l.fn.count.busy + filled_in l.refusals ≤ l.count.busy;
  trials : 2 * l.count.trials ≤ 2 * l.fn.count.trials + length l.refusals * (3 * (l.pdos * (l.pdos + 1)));
}
