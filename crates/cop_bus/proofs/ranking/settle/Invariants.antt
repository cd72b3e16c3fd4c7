use Rattle.std.proofs.Common.{◌≡◌, ◌+◌, ◌<◌, length}
use Rattle.std.specs.Prelude.{slice_index}
use Rattle.cop_bus.specs.Ranks.{AreNodes, AreLedBut}
use Rattle.cop_bus.proofs.ranking.settle.Given as goal

abbrev pub invariant-loop-node : goal.invariant-loop-node
invariant-loop-node l = record {
  nodes : AreNodes (length l.keys) 1 l.leaders.items;
  least : 0 < l.node;
  most : l.node < length l.keys + length l.keys;
  named : slice_index l.leaders.items l.node ≡ l.first.place;
  key : l.first.key ≡ slice_index l.keys l.first.place;
  within : l.first.place < length l.keys;
  led : AreLedBut l.keys l.leaders.items l.node;
}

abbrev pub decreases-loop-node : goal.decreases-loop-node
decreases-loop-node l = l.node
