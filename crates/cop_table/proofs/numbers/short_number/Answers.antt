use Rattle.std.proofs.Common.{rules, arith, sym, length}
use Rattle.cop_table.proofs.NumberLemmas.{OneMore, one_more}
use Rattle.cop_table.proofs.numbers.short_number.Goals as goal

more : (c : goal.After-from-in-Some) → OneMore c.loop-first.value c.from-in-Some.result (length c.args.text.now) (length c.in-Some.tail.now)
more c =
    one_more _ _ _ _ _ (sym c.in-Some.ensures.cases.1) c.loop-first.invariant.left c.requires.short c.loop-first.invariant.fits
    (omega (arith, c.from-in-Some.ensures, c.in_ok-digit.ensures.value.0, c.in_ok-digit.ensures.value.1))

pub overflow_mul-value : goal.overflow_mul-value
overflow_mul-value c =
    let zero = one_more c.loop-first.value 0 _ _ _ (sym c.in-Some.ensures.cases.1) c.loop-first.invariant.left c.requires.short c.loop-first.invariant.fits (omega arith) in
    omega (arith, zero.fits)

pub overflow_add-value : goal.overflow_add-value
overflow_add-value c = omega (arith, (more c).fits)

pub loop-first-preserved : goal.loop-first-preserved
loop-first-preserved c = record {
  digits = search rules;
  fits = (more c).below;
  left = omega (arith, c.in-Some.ensures.cases.1, c.loop-first.invariant.left);
  value = search rules;
}
