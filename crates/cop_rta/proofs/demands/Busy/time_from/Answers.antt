use Rattle.std.proofs.Common.{◌<◌, length, subst, arith}
use Rattle.cop_rta.specs.Test.{Flagged, place_of}
use Rattle.cop_rta.proofs.WaitLemmas.{busy_rises}
use Rattle.cop_rta.proofs.demands.Busy.time_from.Goals as goal

pub least-requires : goal.least-requires
least-requires c =
    let up = busy_rises (place_of c.args.self.now) c.args.from (subst (λ (f : Flagged). f.index < length f.streams) c.self.view_is c.self.invariant.1) c.requires.started c.requires.from in
    omega (arith, up, c.ranges.from.fits)
