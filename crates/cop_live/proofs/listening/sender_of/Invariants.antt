use Rattle.std.proofs.Common.{◌≡◌, drop}
use Rattle.cop_live.specs.Listening.{sender_of}
use Rattle.cop_live.proofs.listening.sender_of.Given as goal

abbrev pub invariant-loop-sender : goal.invariant-loop-sender
invariant-loop-sender l = sender_of (drop l.sender-index l.senders) l.id ≡ sender_of l.fn.senders l.id
