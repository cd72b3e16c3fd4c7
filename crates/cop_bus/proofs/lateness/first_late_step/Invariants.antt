use Rattle.std.proofs.Common.{◌≡◌, drop}
use Rattle.cop_bus.specs.Late.{first_late, first_late_from}
use Rattle.cop_bus.proofs.lateness.first_late_step.Given as goal

abbrev pub invariant-loop-i : goal.invariant-loop-i
invariant-loop-i l = first_late_from l.ticks l.streams l.until l.steps l.i (drop l.i l.steps) ≡ first_late l.ticks l.streams l.until l.steps
