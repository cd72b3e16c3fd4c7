-- A quotient as the high half of a product.
use Rattle.std.proofs.Common.{◌≡◌, ℕ, ◌+◌, ◌-◌, ◌*◌, ◌/◌, ◌<◌, ◌≤◌, arith, le_antisymm, mul-le-mul_left, mul-le-mul_right}
use Rattle.std.specs.Int.{div_ceil}
use Rattle.std.proofs.Math.Nat.{lt-div-mul-add, div-mul-le_self, div-lt_iff_lt-mul, le-div_iff_mul-le, lt_of_mul-lt-mul_left}
use Rattle.cop_rta.specs.CeilLemmas.{div_ceil-least, div_ceil-reaches}

-- ---- numbers alone: whole is a power, inverse its quotient by the period, rounded up

regroup : (k period inverse : ℕ) → k * (inverse * period) ≡ k * period * inverse
regroup k period inverse = grind arith

regroup_high : (n period inverse : ℕ) → n * (inverse * period) ≡ period * (n * inverse)
regroup_high n period inverse = grind arith

regroup_whole : (k period whole : ℕ) → (k * period + period) * whole ≡ period * ((k + 1) * whole)
regroup_whole k period whole = grind arith

spread : (n whole period : ℕ) → n * (whole + period) ≡ n * whole + n * period
spread n whole period = grind arith

one_more : (n whole : ℕ) → (n + 1) * whole ≡ n * whole + whole
one_more n whole = grind arith

low_side : (whole period inverse n k : ℕ) → whole ≤ inverse * period → k * period ≤ n → k * whole ≤ n * inverse
low_side whole period inverse n k reaches le =
    let a : k * whole ≤ k * (inverse * period) = mul-le-mul_left k reaches in
    let b : k * period * inverse ≤ n * inverse = mul-le-mul_right inverse le in
    omega (arith, a, b, regroup k period inverse)

high_side : (whole period inverse n k : ℕ) → inverse * period ≤ whole + period → n * period < whole → n < k * period + period → n * inverse < (k + 1) * whole
high_side whole period inverse n k close small lt =
    let a : n * (inverse * period) ≤ n * (whole + period) = mul-le-mul_left n close in
    let b : (n + 1) * whole ≤ (k * period + period) * whole = mul-le-mul_right whole (omega (arith, lt)) in
    lt_of_mul-lt-mul_left period (omega (arith, a, b, small, spread n whole period, one_more n whole, regroup_high n period inverse, regroup_whole k period whole))

pub high_product : (whole period inverse n : ℕ) → 0 < period → 0 < whole → whole ≤ inverse * period → inverse * period ≤ whole + period → n * period < whole → n * inverse / whole ≡ n / period
high_product whole period inverse n pos some reaches close small =
    let below : n < n / period * period + period = lt-div-mul-add {a = n} {b = period} pos in
    let most : n * inverse / whole < n / period + 1 = (div-lt_iff_lt-mul {k = whole} {x = n * inverse} {y = n / period + 1} some).1 (high_side whole period inverse n (n / period) close small below) in
    let least : n / period ≤ n * inverse / whole = (le-div_iff_mul-le {k = whole} {x = n / period} {y = n * inverse} some).1 (low_side whole period inverse n (n / period) reaches (div-mul-le_self n period)) in
    le_antisymm (omega (arith, most)) least

-- a quotient rounded up is one of a number that is greater by nearly a period
pub rounded_up : (x period n : ℕ) → 0 < period → n ≡ x + period - 1 → n / period ≡ div_ceil x period
rounded_up x period n pos is =
    let below : n < n / period * period + period = lt-div-mul-add {a = n} {b = period} pos in
    let reaches : x ≤ div_ceil x period * period = div_ceil-reaches x period pos in
    let one : (div_ceil x period + 1) * period ≡ div_ceil x period * period + period = one_more (div_ceil x period) period in
    let most : n / period < div_ceil x period + 1 = (div-lt_iff_lt-mul {k = period} {x = n} {y = div_ceil x period + 1} pos).1 (omega (arith, reaches, one, is)) in
    le_antisymm (omega (arith, most)) (div_ceil-least x period (n / period) pos (omega (arith, below, is)))
