use Rattle.std.proofs.Common.{◌-◌, ◌≤◌}
use Rattle.cop_room.specs.Changes.{with_deadlines}
use Rattle.cop_room.specs.Keeping.{CanBePlanned}
use Rattle.cop_room.proofs.TrialLemmas.{IsBetween}
use Rattle.cop_room.proofs.misses.least_thousandths.Given as goal

abbrev pub invariant-loop-low : goal.invariant-loop-low
invariant-loop-low l = IsBetween (CanBePlanned l.rate l.pdos) with_deadlines l.set 1001 60000000000 l.low l.high × (1 ≤ l.step)

abbrev pub decreases-loop-low : goal.decreases-loop-low
decreases-loop-low l = l.high - l.low
