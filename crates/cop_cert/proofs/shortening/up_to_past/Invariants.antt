use Rattle.std.proofs.Common.{◌≡◌, ◌++◌, length}
use Rattle.cop_rta.specs.Test.{place_of}
use Rattle.cop_cert.specs.Short.{is_past, up_to}
use Rattle.cop_cert.proofs.shortening.up_to_past.Given as goal

abbrev pub invariant-loop-wait : goal.invariant-loop-wait
invariant-loop-wait l = l.short ++ up_to (is_past (place_of l.busy) l.q) l.rest ≡ up_to (is_past (place_of l.busy) l.q) l.queue

abbrev pub decreases-loop-wait : goal.decreases-loop-wait
decreases-loop-wait l = length l.rest
