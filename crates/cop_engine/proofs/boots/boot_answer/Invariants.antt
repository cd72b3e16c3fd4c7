use Rattle.std.proofs.Common.{◌≡◌, map, take}
use Rattle.cop_engine.specs.Boots.{node_line}
use Rattle.cop_engine.proofs.boots.boot_answer.Given as goal

abbrev pub invariant-loop-node : goal.invariant-loop-node
invariant-loop-node l = l.lines.items ≡ map (node_line l.manager) (take l.node-index l.nodes)
