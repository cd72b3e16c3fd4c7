use Rattle.std.proofs.Common.{◌≤◌, length, arith}
use Rattle.std.proofs.lemmas.Grind.{common_steps}
use Rattle.cop_verify.proofs.VerifyLemmas.{verified_so, stopped_so}
use Rattle.cop_verify.proofs.verifying.verify_by.Goals as goal

pub returns-clause-verified : goal.returns-clause-verified
returns-clause-verified g c =
    let some : 1 ≤ length c.in_ok-nodes.nodes.items = grind (arith, common_steps, c.if-is_empty.ensures) in
    verified_so g.P.Port.reads g.P.Port.writes g.P.Port.asks g.P.Port.fails c.args.network.now c.args.plan.now.rate c.args.plan.now.ids c.args.way.pause c.args.port.now c.verify_nodes.new.port
    c.in_ok-nodes.nodes.items _ c.verify_nodes.result c.in_ok-nodes.ensures some (rw c.deref.ensures.value at c.verify_nodes.ensures.verified)

pub returns-clause-short : goal.returns-clause-short
returns-clause-short g c =
    stopped_so g.P.Port.reads g.P.Port.writes g.P.Port.asks g.P.Port.fails c.args.network.now c.args.plan.now.rate c.args.plan.now.ids c.args.way.pause c.args.port.now c.verify_nodes.new.port
    c.in_ok-nodes.nodes.items _ c.verify_nodes.result c.in_ok-nodes.ensures (rw c.deref.ensures.value at c.verify_nodes.ensures.short)
