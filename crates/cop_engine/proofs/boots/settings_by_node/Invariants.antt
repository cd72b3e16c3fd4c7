use Rattle.std.proofs.Common.{◌≡◌, map, take}
use Rattle.cop_boot.specs.Member.{unheard}
use Rattle.cop_engine.specs.Boots.{managed}
use Rattle.cop_engine.proofs.boots.settings_by_node.Given as goal

abbrev pub invariant-loop-node : goal.invariant-loop-node
invariant-loop-node l = map unheard l.plan_of.entries ≡ map (managed l.network l.plan.ids) (take l.node-index l.nodes)
