use Rattle.std.proofs.Common.{◌≡◌, ◌++◌}
use Rattle.cop_start.specs.Senders.{each_to, sender_at}
use Rattle.cop_start.proofs.senders.add_device.Given as goal

abbrev pub invariant-loop-before : goal.invariant-loop-before
invariant-loop-before l = l.senders.items ≡ l.fn.senders.items ++ each_to (sender_at l.node l.dict) l.before
