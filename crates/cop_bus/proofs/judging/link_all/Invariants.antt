use Rattle.std.proofs.Common.{◌≤◌, length}
use Rattle.cop_bus.specs.Tables.{IsAhead, IsNext}
use Rattle.cop_bus.proofs.judging.link_all.Given as goal

abbrev pub invariant-loop-i : goal.invariant-loop-i
invariant-loop-i l = record { within : l.i ≤ length l.steps; ahead : IsAhead l.steps l.i l.first.items; next : IsNext l.steps l.i l.next.items }

abbrev pub decreases-loop-i : goal.decreases-loop-i
decreases-loop-i l = l.i
