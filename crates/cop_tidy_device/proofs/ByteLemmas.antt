-- The first bytes of a number.
use Rattle.std.proofs.Common.{◌≡◌, ◌≤◌, ℕ, zero, suc, take, refl, arith}
use Rattle.std.specs.Int.{bytes_low_first}

pub first_bytes : (width count i n : ℕ) → width ≤ count → take width (bytes_low_first i count n) ≡ bytes_low_first i width n
first_bytes zero count i n le = refl
first_bytes (suc width) zero i n le = absurd (omega arith)
first_bytes (suc width) (suc count) i n le = rw (first_bytes width count (suc i) n (omega arith)) refl
