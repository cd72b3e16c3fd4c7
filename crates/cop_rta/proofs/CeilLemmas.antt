-- Periods of a sum.
use Rattle.std.proofs.Common.{ℕ, ◌+◌, ◌-◌, ◌*◌, ◌/◌, ◌%◌, ◌<◌, ◌≤◌, ◌≡◌, arith, ⊎_elim, mul-le-mul_right, le_antisymm, refl, sym}
use Rattle.std.specs.Int.{div_ceil}
use Rattle.std.proofs.lemmas.Bool.{cases_lt}
use Rattle.std.proofs.lemmas.Nat.{div-add-mod'}
use Rattle.cop_rta.specs.CeilLemmas.{div_ceil-reaches, div_ceil-least}

sum_times : (a b p x y : ℕ) → x ≤ b * p → y ≡ a * p + x → y ≤ (a + b) * p
sum_times a b p x y h e = grind arith

too_few : (n a p x : ℕ) → 0 < p → (n + 1) * p ≤ a * p → a * p + x ≤ n * p → ⊥
too_few n a p x pos h e = grind arith

left_of : (a d p x n : ℕ) → n ≡ a + d → a * p + x ≤ n * p → x ≤ d * p
left_of a d p x n e h = grind arith

rest_within : (a x p n : ℕ) → 0 < p → a ≤ n → a * p + x ≤ n * p → a + div_ceil x p ≤ n
rest_within a x p n pos more enough =
    let left : div_ceil x p ≤ n - a = div_ceil-least x p (n - a) pos (left_of a (n - a) p x n (omega arith) enough) in
    omega (arith, left)

within : (a x p n : ℕ) → 0 < p → a * p + x ≤ n * p → a + div_ceil x p ≤ n
within a x p n pos enough = ⊎_elim
    (λ (less : n < a). let more : (n + 1) * p ≤ a * p = mul-le-mul_right p (omega arith) in absurd (too_few n a p x pos more enough))
    (λ (more : a ≤ n). rest_within a x p n pos more enough)
    (cases_lt n a)

-- whole periods in front of what is left
pub whole_and_rest : (a x p : ℕ) → 0 < p → div_ceil (a * p + x) p ≡ a + div_ceil x p
whole_and_rest a x p pos =
    le_antisymm
    (div_ceil-least (a * p + x) p (a + div_ceil x p) pos (sum_times a (div_ceil x p) p x (a * p + x) (div_ceil-reaches x p pos) refl))
    (within a x p (div_ceil (a * p + x) p) pos (div_ceil-reaches (a * p + x) p pos))

pub split_time : (t m p : ℕ) → 0 < p → t / p + div_ceil (t % p + m) p ≡ div_ceil (t + m) p
split_time t m p pos =
    let e : t + m ≡ t / p * p + (t % p + m) = omega (arith, div-add-mod' t p) in
    rw e (sym (whole_and_rest (t / p) (t % p + m) p pos))
