use Rattle.std.proofs.Common.{◌≡◌, map, take}
use Rattle.cop_rta.specs.Errors.{up}
use Rattle.cop_rta.proofs.sets.StreamSet.through.Given as goal

abbrev pub invariant-loop-stream : goal.invariant-loop-stream
invariant-loop-stream l = l.set ≡ map up (take l.stream-index l.self)
