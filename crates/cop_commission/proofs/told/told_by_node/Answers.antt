use Rattle.std.proofs.lemmas.List.{get_or_default}
use Rattle.cop_dcf.specs.Settings.{node_settings}
use Rattle.cop_commission.specs.Told.{told_settings}
use Rattle.cop_commission.proofs.ToldLemmas.{one_told}
use Rattle.cop_commission.proofs.told.told_by_node.Goals as goal

pub loop-node-preserved : goal.loop-node-preserved
loop-node-preserved c =
    one_told c.args.limit (λ n. told_settings c.args.told.now n (node_settings c.args.network.now c.args.plan.now.ids n)) c.args.nodes.now c.loop-node.plan_of.entries c.insert.new.self.entries c.loop-node.node-index _ c.in_ok-told_settings.field-0
    c.requires.rise c.loop-node-test.true (get_or_default c.args.nodes.now c.loop-node.node-index _ _ c.loop-node-test.true) c.loop-node.invariant c.in_ok-told_settings.ensures c.in_ok-insert.ensures.entries
