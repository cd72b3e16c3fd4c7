use Rattle.std.proofs.Common.{◌≡◌, ◌≤◌, ◌-◌}
use Rattle.cop_engine.specs.Boots.{nodes_to}
use Rattle.cop_engine.proofs.boots.device_nodes.Given as goal

abbrev pub invariant-loop-node : goal.invariant-loop-node
invariant-loop-node l = (1 ≤ l.node) × (l.nodes.items ≡ nodes_to l.network (l.node - 1))
