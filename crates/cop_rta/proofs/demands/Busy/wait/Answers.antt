use Rattle.std.proofs.Common.{◌<◌, length, subst}
use Rattle.cop_rta.specs.Test.{Flagged, place_of}
use Rattle.cop_rta.proofs.WaitLemmas.{has_wait}
use Rattle.cop_rta.proofs.demands.Busy.wait.Goals as goal

pub unreachable-requires : goal.unreachable-requires
unreachable-requires c =
    has_wait (place_of c.args.self.now) c.args.busy_time c.args.q 40000000
    (subst (λ (f : Flagged). f.index < length f.streams) c.self.view_is c.self.invariant.1)
    c.requires.busy c.requires.within c.requires.queued c.in-None.ensures.none
