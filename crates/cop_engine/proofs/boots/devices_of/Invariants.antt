use Rattle.std.proofs.Common.{◌≡◌, map, take}
use Rattle.cop_engine.specs.Boots.{device_at}
use Rattle.cop_engine.proofs.boots.devices_of.Given as goal

abbrev pub invariant-loop-node : goal.invariant-loop-node
invariant-loop-node l = l.devices.items ≡ map (device_at l.network) (take l.node-index l.nodes)
