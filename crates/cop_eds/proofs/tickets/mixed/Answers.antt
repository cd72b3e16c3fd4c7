use Rattle.std.proofs.Common.{arith}
use Rattle.cop_eds.proofs.MixLemmas.{short_mixed, long_mixed}
use Rattle.cop_eds.proofs.tickets.mixed.Goals as goal

pub returns-in-Some : goal.returns-in-Some
returns-in-Some c =
    let parts = c.in-Some.ensures.cases in
    long_mixed c.args.name.now _ c.in_eights.result c.low_bits.result _ parts.1 (omega (arith, parts.2)) c.in_eights.ensures c.low_bits.ensures c.stirred.ensures

pub returns-in-None : goal.returns-in-None
returns-in-None c = short_mixed c.args.name.now c.mixed_each.result c.in-None.ensures.cases c.mixed_each.ensures
