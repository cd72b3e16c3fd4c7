use Rattle.std.proofs.Common.{arith}
use Rattle.cop_bus.proofs.LineLemmas.{digits_are_few}
use Rattle.cop_bus.proofs.lines.put_number.Goals as goal

pub write_digits-digits-requires : goal.write_digits-digits-requires
write_digits-digits-requires c =
    let few = digits_are_few c.args.number c.ranges.number.fits in
    (omega (arith, few), omega (arith, c.told-block))

pub put-requires-clause-room : goal.put-requires-clause-room
put-requires-clause-room c = omega (arith, digits_are_few c.args.number c.ranges.number.fits)

pub returns-clause-start : goal.returns-clause-start
returns-clause-start c = (let few = digits_are_few c.args.number c.ranges.number.fits in (omega (arith, few), omega (arith, few)))
