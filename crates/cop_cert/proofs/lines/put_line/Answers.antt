use Rattle.std.proofs.Common.{◌-◌, ◌≤◌, length, arith}
use Rattle.std.proofs.Math.ListN.{length-set}
use borrow.Rule.Slice.PartMut.{mid_len}
use Rattle.cop_cert.proofs.BlockLemmas.{digits_are_few}
use Rattle.cop_cert.proofs.lines.put_line.Goals as goal

pub write_digits-number-requires : goal.write_digits-number-requires
write_digits-number-requires c =
    let few = digits_are_few c.args.value c.ranges.value.fits in
    (omega (arith, few), omega (arith, length-set c.args.block.now (c.args.end - 1) 10, c.told-block))

pub overflow_sub-start : goal.overflow_sub-start
overflow_sub-start c = omega (arith, digits_are_few c.args.value c.ranges.value.fits)

pub copy_from_slice-requires : goal.copy_from_slice-requires
copy_from_slice-requires c =
    let few = digits_are_few c.args.value c.ranges.value.fits in
    let left : length c.args.head.now ≤ c.write_digits-number.result = omega arith in
    let within : c.write_digits-number.result ≤ length c.write_digits-number.new.buf = omega (arith, c.write_digits-number.auto.buf, length-set c.args.block.now (c.args.end - 1) 10, c.told-block) in
    let part = mid_len (c.write_digits-number.result - length c.args.head.now) c.write_digits-number.result c.write_digits-number.new.buf within in
    omega (arith, part)

pub returns-clause-short : goal.returns-clause-short
returns-clause-short c = omega (arith, digits_are_few c.args.value c.ranges.value.fits)
