use Rattle.std.proofs.Common.{◌≡◌, length}
use Rattle.cop_bytes.specs.Bytes.{are_standing}
use Rattle.cop_bytes.proofs.plain.are_standing.Given as goal

abbrev pub invariant-loop-first : goal.invariant-loop-first
invariant-loop-first l = are_standing l.rest ≡ are_standing l.text

abbrev pub decreases-loop-first : goal.decreases-loop-first
decreases-loop-first l = length l.rest
