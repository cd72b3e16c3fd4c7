use Rattle.std.proofs.Common.{◌≤◌}
use Rattle.cop_bus.specs.Ranks.{AreNodes}
use Rattle.cop_bus.proofs.ranking.nodes_over.Given as goal

abbrev pub invariant-loop-node : goal.invariant-loop-node
invariant-loop-node l = record {
  low : l.node ≤ l.places;
  nodes : AreNodes l.places l.node l.nodes.items;
}

abbrev pub decreases-loop-node : goal.decreases-loop-node
decreases-loop-node l = l.node
