use Rattle.std.proofs.Common.{◌≡◌, drop}
use Rattle.std.specs.Prelude.{filter}
use Rattle.cop_sdo.specs.Message.{message_of}
use Rattle.cop_boot.specs.Schedule.{is_for}
use Rattle.cop_boot.proofs.bus.next_to.Given as goal

abbrev pub invariant-loop-place : goal.invariant-loop-place
invariant-loop-place l = filter (λ frame. is_for l.node (message_of frame)) (drop l.place l.sent) ≡ filter (λ frame. is_for l.node (message_of frame)) (drop l.from l.sent)
