use Rattle.std.proofs.Common.{◌≡◌, map, take}
use Rattle.cop_commission.specs.Unended.{unended_line}
use Rattle.cop_commission.proofs.unended.unended_answer.Given as goal

abbrev pub invariant-loop-node : goal.invariant-loop-node
invariant-loop-node l = l.lines.items ≡ map (unended_line l.manager) (take l.node-index l.nodes)
