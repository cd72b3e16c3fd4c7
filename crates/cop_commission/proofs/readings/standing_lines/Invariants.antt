use Rattle.std.proofs.Common.{◌≡◌, map, take}
use Rattle.cop_commission.specs.Readings.{standing_line}
use Rattle.cop_commission.proofs.readings.standing_lines.Given as goal

abbrev pub invariant-loop-node : goal.invariant-loop-node
invariant-loop-node l = l.lines.items ≡ map (standing_line l.manager l.back) (take l.node-index l.nodes)
