use Rattle.std.proofs.Common.{ℕ, ◌<◌, ◌≤◌}
use Rattle.cop_room.specs.Planning.{left_in}
use Rattle.cop_room.proofs.misses.least_left.Given as goal

abbrev pub invariant-loop-p : goal.invariant-loop-p
invariant-loop-p l = (l.least < l.p) × (l.p ≤ l.pdos) × ((k : ℕ) → k < l.p → left_in l.streams l.verdicts l.least ≤ left_in l.streams l.verdicts k)
