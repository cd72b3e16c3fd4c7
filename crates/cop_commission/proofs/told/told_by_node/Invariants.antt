use Rattle.std.proofs.Common.{◌≡◌, map, take}
use Rattle.cop_boot.specs.Member.{unheard_within}
use Rattle.cop_commission.specs.Told.{told_node}
use Rattle.cop_commission.proofs.told.told_by_node.Given as goal

abbrev pub invariant-loop-node : goal.invariant-loop-node
invariant-loop-node l = map (unheard_within l.limit) l.plan_of.entries ≡ map (told_node l.limit l.network l.plan.ids l.told) (take l.node-index l.nodes)
