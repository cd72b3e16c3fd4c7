use Rattle.std.proofs.Common.{◌≡◌, length}
use Rattle.std.specs.Str.{str_to_ascii_lowercase}
use Rattle.cop_eds.specs.Tickets.{mixed_each}
use Rattle.cop_eds.proofs.tickets.mixed_each.Given as goal

abbrev pub invariant-loop-first : goal.invariant-loop-first
invariant-loop-first l = mixed_each l.sum (str_to_ascii_lowercase l.rest) ≡ mixed_each l.start (str_to_ascii_lowercase l.bytes)

abbrev pub decreases-loop-first : goal.decreases-loop-first
decreases-loop-first l = length l.rest
