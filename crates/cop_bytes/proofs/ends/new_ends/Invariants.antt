use Rattle.std.proofs.Common.{◌≡◌, map, take}
use Rattle.cop_bytes.specs.Bytes.{new_end}
use Rattle.cop_bytes.proofs.ends.new_ends.Given as goal

abbrev pub invariant-loop-byte : goal.invariant-loop-byte
invariant-loop-byte l = l.ended.items ≡ map new_end (take l.byte-index l.text)
