use Rattle.std.proofs.Common.{◌≡◌, replicate, None}
use Rattle.cop_net.proofs.devices.Devices.new.Given as goal

abbrev pub invariant-loop-node : goal.invariant-loop-node
invariant-loop-node l = l.devices.items ≡ replicate l._node None
