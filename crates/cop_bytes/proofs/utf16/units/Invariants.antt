use Rattle.std.proofs.Common.{◌≡◌, ◌++◌, length}
use Rattle.cop_bytes.specs.Bytes.{units}
use Rattle.cop_bytes.proofs.utf16.units.Given as goal

abbrev pub invariant-loop-rest : goal.invariant-loop-rest
invariant-loop-rest l = l.units.items ++ units l.is_big l.rest ≡ units l.is_big l.bytes

abbrev pub decreases-loop-rest : goal.decreases-loop-rest
decreases-loop-rest l = length l.rest
