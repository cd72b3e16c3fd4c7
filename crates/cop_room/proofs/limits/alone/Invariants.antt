use Rattle.std.proofs.Common.{◌-◌, ◌≤◌}
use Rattle.cop_room.proofs.limits.alone.Given as goal

abbrev pub invariant-loop-low : goal.invariant-loop-low
invariant-loop-low l = (l.from ≤ l.low) × (l.high ≤ l.to) × (l.from ≤ l.to → l.low ≤ l.high)

abbrev pub decreases-loop-low : goal.decreases-loop-low
decreases-loop-low l = l.high - l.low
