use Rattle.std.proofs.Common.{◌≤◌, ap, arith, length, length-append}
use Rattle.cop_cert.proofs.writing.head_of.Goals as goal

pub returns-clause-short : goal.returns-clause-short
returns-clause-short c =
    let rate : length c.as_bytes.result.now ≤ 40 = omega (arith, c.format.ensures.short, ap length c.as_bytes.ensures.value) in
    let number : length c.as_bytes-2.result.now ≤ 40 = omega (arith, c.format-2.ensures.short, ap length c.as_bytes-2.ensures.value) in
    omega (arith, rate, number, ap length c.in_ok-head.ensures.items, simp length-append at (ap length c.in_ok-push.ensures.items), simp length-append at (ap length c.in_ok-extend_from_slice.ensures.items), simp length-append at (ap length c.in_ok-push-2.ensures.items), simp length-append at (ap length c.in_ok-extend_from_slice-2.ensures.items), simp length-append at (ap length c.in_ok-push-3.ensures.items))
