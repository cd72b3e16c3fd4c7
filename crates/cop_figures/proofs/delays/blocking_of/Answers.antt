use Rattle.std.proofs.Common.{arith}
use Rattle.cop_rta.specs.Test.{place_of}
use Rattle.cop_figures.proofs.DelayLemmas.{within_wait}
use Rattle.cop_figures.proofs.delays.blocking_of.Goals as goal

pub overflow_cast-result : goal.overflow_cast-result
overflow_cast-result c =
    let low = within_wait (place_of c.args.busy.now) c.args.number c.args.wait c.requires in
    omega (arith, low, c.start_of.ensures, c.ranges.wait.fits)
