use Rattle.std.proofs.Common.{◌≡◌, ◌<◌, ◌^◌, [], drop, arith}
use Rattle.std.proofs.lemmas.List.{drop_all}
use Rattle.cop_bus.proofs.LineLemmas.{queue_made}
use Rattle.cop_bus.proofs.lines.make_queue.Goals as goal

pub returns-clause-line : goal.returns-clause-line
returns-clause-line c =
    let none : drop 112 c.args.block.now ≡ [] = drop_all 112 c.args.block.now (omega (arith, c.told-block)) in
    let fits : c.args.frame.now.bits < 2 ^ 64 = rw (← c.from.ensures) c.put_number-bits.ensures.fits in
    rw (c.put.ensures.part, c.put_number-at.ensures.part, c.put_number-id.ensures.part, c.put_number-event.ensures.part, c.put_number-bits.ensures.part, c.put-comma.ensures.part, c.put-data.ensures.part, c.put-end.ensures.part, c.from.ensures, c.from-2.ensures, c.digits_of-digits.ensures, c.bytes_of-bytes.ensures.value)
    (queue_made c.args.at c.args.id c.args.event c.args.frame.now (drop 112 c.args.block.now) c.ranges.at.fits (omega (arith, c.ranges.id.fits)) c.ranges.event.fits fits none)
