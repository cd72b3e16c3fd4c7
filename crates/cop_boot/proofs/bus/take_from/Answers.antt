use Rattle.std.proofs.Common.{arith, refl}
use Rattle.cop_boot.proofs.BusLemmas.{from_front, from_none}
use Rattle.cop_boot.proofs.bus.take_from.Goals as goal

pub returns-clause-front : goal.returns-clause-front
returns-clause-front c =
    let bus = c.args.bus.now in
    from_front bus.answers.items c.deref.result.now bus.heard c.args.node c.from.result c.from-2.result c.in-Some.front c.index.result.now c.deref.ensures.value c.from.ensures c.from-2.ensures c.requires.others (omega (arith, c.ranges.node.fits))
    c.in-Some.ensures.some.1 c.index.ensures

pub returns-in_default-clause-front : goal.returns-in_default-clause-front
returns-in_default-clause-front c =
    let bus = c.args.bus.now in
    (refl, from_none bus.answers.items c.deref.result.now bus.heard c.args.node c.from.result c.deref.ensures.value c.from.ensures (c.next_from.ensures.none c.in_default.is))
