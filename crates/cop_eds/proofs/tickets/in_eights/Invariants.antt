use Rattle.std.proofs.Common.{◌≡◌, ◌/◌, length}
use Rattle.std.specs.Str.{str_to_ascii_lowercase}
use Rattle.cop_eds.specs.Tickets.{mixed_by}
use Rattle.cop_eds.proofs.tickets.in_eights.Given as goal

abbrev pub invariant-loop-bytes : goal.invariant-loop-bytes
invariant-loop-bytes l = mixed_by (length l.rest / 8) l.sum (str_to_ascii_lowercase l.rest) ≡ mixed_by (length l.name / 8) 0 (str_to_ascii_lowercase l.name)

abbrev pub decreases-loop-bytes : goal.decreases-loop-bytes
decreases-loop-bytes l = length l.rest
