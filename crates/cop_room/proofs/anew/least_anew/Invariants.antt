use Rattle.std.proofs.Common.{◌-◌}
use Rattle.cop_room.specs.Keeping.{CanBePlanned}
use Rattle.cop_room.specs.Numbers.{change_of}
use Rattle.cop_room.proofs.TrialLemmas.{IsBetween}
use Rattle.cop_room.proofs.anew.least_anew.Given as goal

abbrev pub invariant-loop-low : goal.invariant-loop-low
invariant-loop-low l = IsBetween (CanBePlanned l.rate l.pdos) (change_of l.number) l.set l.first l.now l.low l.high

abbrev pub decreases-loop-low : goal.decreases-loop-low
decreases-loop-low l = l.high - l.low
