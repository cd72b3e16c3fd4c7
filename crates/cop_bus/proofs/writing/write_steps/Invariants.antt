use Rattle.std.proofs.Common.{map, take}
use Rattle.cop_bus.specs.Format.{fields_of}
use Rattle.cop_bus.specs.Writer.{Adds}
use Rattle.cop_bus.proofs.writing.write_steps.Given as goal

abbrev pub invariant-loop-step : goal.invariant-loop-step
invariant-loop-step g l = Adds g.W.Write.contents l.fn.writer l.writer (map fields_of (take l.step-index l.steps))
