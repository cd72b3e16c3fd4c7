use Rattle.cop_engine.proofs.BootLemmas.{one_managed}
use Rattle.std.proofs.lemmas.List.{get_or_default}
use Rattle.cop_engine.proofs.boots.settings_by_node.Goals as goal

pub loop-node-preserved : goal.loop-node-preserved
loop-node-preserved c =
    one_managed c.args.network.now c.args.plan.now.ids c.args.nodes.now c.loop-node.plan_of.entries c.insert.new.self.entries c.loop-node.node-index _ c.in_ok-settings.field-0
    c.requires.rise c.loop-node-test.true (get_or_default c.args.nodes.now c.loop-node.node-index _ _ c.loop-node-test.true) c.loop-node.invariant c.in_ok-settings.ensures c.in_ok-insert.ensures.entries
