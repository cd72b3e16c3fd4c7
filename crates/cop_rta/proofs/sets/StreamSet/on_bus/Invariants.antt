use Rattle.std.proofs.Common.{◌≡◌, ◌-◌, map, take}
use Rattle.cop_rta.specs.Errors.{down}
use Rattle.cop_rta.proofs.sets.StreamSet.on_bus.Given as goal

abbrev pub invariant-loop-k : goal.invariant-loop-k
invariant-loop-k l = l.set ≡ map down (take (l.k - 1) l.self)
