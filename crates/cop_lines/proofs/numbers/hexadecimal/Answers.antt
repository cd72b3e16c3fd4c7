use Rattle.std.proofs.Common.{◌<◌, ◌≤◌, ◌^◌, ℕ, arith}
use Rattle.std.proofs.Math.Nat.{pow-le-pow_right}
use Rattle.cop_lines.proofs.numbers.hexadecimal.Goals as goal

low : (n i : ℕ) → i < 8 → n < 16 ^ i → n < 268435456
low n i l h = let k : i ≤ 7 = omega arith in let p : 16 ^ i ≤ 16 ^ 7 = pow-le-pow_right {n = 16} (omega arith) k in omega (arith, p)

pub overflow_mul-n : goal.overflow_mul-n
overflow_mul-n c = let h = low c.loop-i.n c.loop-i.i (omega (arith, c.loop-i-test.true, c.requires)) c.loop-i.invariant.1 in omega (arith, h)

pub overflow_add-n : goal.overflow_add-n
overflow_add-n c = let h = low c.loop-i.n c.loop-i.i (omega (arith, c.loop-i-test.true, c.requires)) c.loop-i.invariant.1 in let d = c.in_ok-n.ensures.value in omega (arith, h, d)
