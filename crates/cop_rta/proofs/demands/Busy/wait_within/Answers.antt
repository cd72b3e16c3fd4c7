use Rattle.std.proofs.Common.{arith}
use Rattle.cop_rta.specs.Test.{place_of}
use Rattle.cop_rta.proofs.WaitLemmas.{rises}
use Rattle.cop_rta.proofs.demands.Busy.wait_within.Goals as goal

pub least-requires : goal.least-requires
least-requires c =
    let up = rises (place_of c.args.self.now) c.args.q c.args.from c.requires.from in
    rw c.queueing.ensures (omega (arith, up, c.ranges.from.fits))
