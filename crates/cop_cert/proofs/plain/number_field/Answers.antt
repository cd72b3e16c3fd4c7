use Rattle.std.proofs.Common.{arith, rules, ◌<◌}
use Rattle.cop_cert.proofs.PlainLemmas.{OneMore, one_more, digits_are_number}
use Rattle.cop_cert.proofs.plain.number_field.Goals as goal

pub returns-else-digits-eq0 : goal.returns-else-digits-eq0
returns-else-digits-eq0 c = digits_are_number _ _ c.loop-first.digits _ (search rules) (search rules)

few : (c : goal.After-from-in-Some) → c.loop-first.digits < 19
few c = search rules

more : (c : goal.After-from-in-Some) → OneMore c.loop-first.number c.loop-first.digits c.from-in-Some.result
more c = one_more _ _ _ c.loop-first.invariant.fits (few c) (omega (arith, c.from-in-Some.ensures, c.in_ok-digit.ensures.value.0, c.in_ok-digit.ensures.value.1))

pub overflow_mul-number : goal.overflow_mul-number
overflow_mul-number c =
    let zero = one_more c.loop-first.number c.loop-first.digits 0 c.loop-first.invariant.fits (search rules) (omega arith) in
    omega (arith, zero.fits)

pub overflow_add-number : goal.overflow_add-number
overflow_add-number c = omega (arith, (more c).fits)
