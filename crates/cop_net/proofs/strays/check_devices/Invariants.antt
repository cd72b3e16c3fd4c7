use Rattle.std.proofs.Common.{◌≡◌, drop}
use Rattle.cop_net.specs.Network.{all_settable}
use Rattle.cop_net.proofs.strays.check_devices.Given as goal

abbrev pub invariant-loop-node : goal.invariant-loop-node
invariant-loop-node l = all_settable l.frames l.used l.node (drop l.node l.devices.devices) ≡ all_settable l.frames l.used 0 l.devices.devices
