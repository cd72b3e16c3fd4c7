use Rattle.std.proofs.Common.{◌≡◌, take}
use Rattle.std.specs.List.{flat_map}
use Rattle.cop_commission.specs.Heartbeats.{awaited_at}
use Rattle.cop_commission.proofs.heartbeats.awaited_of.Given as goal

abbrev pub invariant-loop-node : goal.invariant-loop-node
invariant-loop-node l = l.awaited.items ≡ flat_map (awaited_at l.network) (take l.node-index l.nodes)
