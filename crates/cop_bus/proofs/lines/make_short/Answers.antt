use Rattle.std.proofs.Common.{◌≡◌, [], drop, arith}
use Rattle.std.proofs.lemmas.List.{drop_all}
use Rattle.cop_bus.proofs.LineLemmas.{short_made}
use Rattle.cop_bus.proofs.lines.make_short.Goals as goal

pub returns-clause-line : goal.returns-clause-line
returns-clause-line c plain =
    let none : drop 112 c.args.block.now ≡ [] = drop_all 112 c.args.block.now (omega (arith, c.told-block)) in
    rw (c.put.ensures.part, c.put_number-at.ensures.part, c.put_number-id.ensures.part, c.put-empty.ensures.part, c.from.ensures) (short_made c.args.kind.now c.args.at c.args.id (drop 112 c.args.block.now) c.ranges.at.fits (omega (arith, c.ranges.id.fits)) plain none)
