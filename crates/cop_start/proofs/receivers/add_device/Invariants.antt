use Rattle.std.proofs.Common.{◌≡◌, ◌++◌}
use Rattle.cop_start.specs.Senders.{each_to, receiver_at}
use Rattle.cop_start.proofs.receivers.add_device.Given as goal

abbrev pub invariant-loop-before : goal.invariant-loop-before
invariant-loop-before l = l.receivers.items ≡ l.fn.receivers.items ++ each_to (receiver_at l.node l.dict) l.before
