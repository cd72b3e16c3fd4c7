use Rattle.cop_bus.specs.Bus.{ArePlacedTo}
use Rattle.cop_bus.proofs.bus.places_of.Given as goal

abbrev pub invariant-loop-i : goal.invariant-loop-i
invariant-loop-i l = ArePlacedTo l.streams l.i l.places
