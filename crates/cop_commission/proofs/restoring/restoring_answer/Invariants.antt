use Rattle.std.proofs.Common.{◌≡◌, map, take}
use Rattle.cop_commission.specs.Restoring.{restoring_line}
use Rattle.cop_commission.proofs.restoring.restoring_answer.Given as goal

abbrev pub invariant-loop-node : goal.invariant-loop-node
invariant-loop-node l = l.lines.items ≡ map (restoring_line l.all) (take l.node-index l.nodes)
