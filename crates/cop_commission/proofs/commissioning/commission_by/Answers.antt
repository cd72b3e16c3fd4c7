use Rattle.std.proofs.Common.{◌≤◌, length, arith}
use Rattle.std.proofs.lemmas.Grind.{common_steps}
use Rattle.cop_commission.proofs.MeantLemmas.{commissioned_so}
use Rattle.cop_commission.proofs.FailureLemmas.{failed_so, stopped_so}
use Rattle.cop_commission.proofs.commissioning.commission_by.Goals as goal

pub returns-clause-commissioned : goal.returns-clause-commissioned
returns-clause-commissioned g c =
    let some : 1 ≤ length c.in_ok-nodes.nodes.items = grind (arith, common_steps, c.if-is_empty.ensures) in
    commissioned_so g.P.Port.reads g.P.Port.writes g.P.Port.asks c.args.network.now c.args.plan.now.rate c.args.plan.now.ids c.in_ok-nodes.nodes.items c.args.approach c.args.port.now c.commission_nodes.new.port
    c.commission_nodes.result c.in_ok-nodes.ensures some (rw c.deref.ensures.value at c.commission_nodes.ensures.met)

pub returns-clause-failed : goal.returns-clause-failed
returns-clause-failed g c = failed_so g.P.Port.reads g.P.Port.writes g.P.Port.asks g.P.Port.fails c.args.network.now c.args.plan.now.rate c.args.plan.now.ids c.in_ok-nodes.nodes.items c.args.approach c.args.port.now c.commission_nodes.new.port c.commission_nodes.result c.in_ok-nodes.ensures (rw c.deref.ensures.value at c.commission_nodes.ensures.failed)

pub returns-clause-short : goal.returns-clause-short
returns-clause-short g c = stopped_so g.P.Port.reads g.P.Port.writes g.P.Port.asks g.P.Port.fails c.args.network.now c.args.plan.now.rate c.args.plan.now.ids c.in_ok-nodes.nodes.items c.args.approach c.args.port.now c.commission_nodes.new.port c.commission_nodes.result c.in_ok-nodes.ensures (rw c.deref.ensures.value at c.commission_nodes.ensures.short)
