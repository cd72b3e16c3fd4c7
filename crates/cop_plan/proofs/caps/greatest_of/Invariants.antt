use Rattle.std.proofs.Common.{take}
use Rattle.cop_plan.specs.Caps.{IsGreatestOf}
use Rattle.cop_plan.proofs.caps.greatest_of.Given as goal

abbrev pub invariant-loop-cap : goal.invariant-loop-cap
invariant-loop-cap l = IsGreatestOf (take l.cap-index l.caps) l.greatest
