use Rattle.std.proofs.Common.{rules}
use Rattle.cop_boot.proofs.PlanLemmas.{goes_on}
use Rattle.cop_boot.proofs.manager.can_manage.Goals as goal

pub loop-node-preserved : goal.loop-node-preserved
loop-node-preserved c =
    let inv = c.loop-node.invariant in
    record {
      can = inv.can;
      finite = inv.finite;
      leaves = goes_on c.args.plan.now.entries c.loop-node.node-iterator c.next.new.self (c.in-Some.node.now, c.in-Some.settings.now) c.in-Some.ensures.steps (search rules) inv.leaves;
    }
