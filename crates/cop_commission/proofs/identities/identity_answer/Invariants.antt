use Rattle.std.proofs.Common.{◌≡◌, map, take}
use Rattle.cop_commission.specs.Identities.{identity_line}
use Rattle.cop_commission.proofs.identities.identity_answer.Given as goal

abbrev pub invariant-loop-node : goal.invariant-loop-node
invariant-loop-node l = l.lines.items ≡ map (identity_line l.all) (take l.node-index l.nodes)
