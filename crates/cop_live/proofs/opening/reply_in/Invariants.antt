use Rattle.std.proofs.Common.{◌≡◌, drop}
use Rattle.cop_live.specs.Opening.{reply_in}
use Rattle.cop_live.proofs.opening.reply_in.Given as goal

abbrev pub invariant-loop-byte : goal.invariant-loop-byte
invariant-loop-byte l = reply_in (drop l.byte-index l.bytes) ≡ reply_in l.fn.bytes
