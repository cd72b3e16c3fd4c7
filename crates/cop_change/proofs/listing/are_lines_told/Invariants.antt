use Rattle.std.proofs.Common.{◌≡◌, ◌≤◌, ◌+◌, length}
use Rattle.cop_eds.specs.Text.{cut}
use Rattle.cop_change.specs.Told.{are_told_from}
use Rattle.cop_change.proofs.listing.are_lines_told.Given as goal

abbrev pub invariant-loop-rest : goal.invariant-loop-rest
invariant-loop-rest l =
    record {
      same : are_told_from l.place (cut l.rest) l.left ≡ are_told_from 1 (cut l.lines) l.changes;
      counted : l.place + length l.rest ≤ length l.lines + 1;
    }

abbrev pub decreases-loop-rest : goal.decreases-loop-rest
decreases-loop-rest l = length l.rest
