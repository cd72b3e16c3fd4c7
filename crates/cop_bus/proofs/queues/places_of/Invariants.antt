use Rattle.std.proofs.Common.{◌≤◌, length}
use Rattle.cop_bus.specs.Queues.{AreListed}
use Rattle.cop_bus.proofs.queues.places_of.Given as goal

abbrev pub invariant-loop-i : goal.invariant-loop-i
invariant-loop-i l = record {
  listed : AreListed l.streams l.i l.places.items;
  few : length l.places.items ≤ 65536;
}
