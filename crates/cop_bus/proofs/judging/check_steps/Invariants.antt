use Rattle.std.proofs.Common.{◌≡◌, drop}
use Rattle.cop_bus.specs.Trace.{running}
use Rattle.cop_bus.specs.Judge.{first_broken, first_broken_from}
use Rattle.cop_bus.specs.Tables.{AreTables, IsLinked}
use Rattle.cop_bus.proofs.judging.check_steps.Given as goal

abbrev pub invariant-loop-i : goal.invariant-loop-i
invariant-loop-i l = record {
  tables : AreTables l.ticks l.streams l.steps l.i l.tables;
  transfer : l.running ≡ running l.ticks l.steps l.i;
  links : IsLinked l.steps l.i l.links.items;
  none_yet : first_broken_from l.ticks l.streams l.until l.steps l.i (drop l.i l.steps) ≡ first_broken l.ticks l.streams l.until l.steps;
}
