use Rattle.cop_bus.specs.Bus.{IsLowestSoFar}
use Rattle.cop_bus.proofs.bus.lowest.Given as goal

abbrev pub invariant-loop-i : goal.invariant-loop-i
invariant-loop-i l = IsLowestSoFar l.instances l.i l.found
