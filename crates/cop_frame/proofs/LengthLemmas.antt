-- The lengths of frames.
use Rattle.std.proofs.Common.{◌≡◌, ◌∙◌, ℕ, ◌+◌, ◌*◌, ◌≤◌, ◌<◌, ap, arith, Bool, true, false, if◌then◌else◌, ◌==◌}
use Rattle.std.proofs.lemmas.Bool.{ne_eqb}
use Rattle.cop_frame.specs.Lengths.{least_bits, worst_bits}

pub worst_bits-frame : (bytes : ℕ) → bytes ≤ 8 → worst_bits bytes ≡ 55 + 10 * bytes
unfolding worst_bits
worst_bits-frame bytes l = ap (λ b. if b then 166 else 55 + 10 * bytes) (ne_eqb bytes 9 (λ e. omega (arith, e, l)))

pub least_bits-frame : (bytes : ℕ) → bytes ≤ 8 → least_bits bytes ≡ 47 + 8 * bytes
unfolding least_bits
least_bits-frame bytes l = ap (λ b. if b then 1 else 47 + 8 * bytes) (ne_eqb bytes 9 (λ e. omega (arith, e, l)))

-- no frame is shorter than 55 bits at its longest
pub worst_bits-least : (bytes : ℕ) → 55 ≤ worst_bits bytes
unfolding worst_bits
worst_bits-least bytes = go (bytes == 9)
  where
    go : (b : Bool) → 55 ≤ (if b then 166 else 55 + 10 * bytes)
    go true = omega arith
    go false = omega arith

-- none longer than a disturbed transfer
pub worst_bits-most : (bytes : ℕ) → bytes ≤ 9 → worst_bits bytes ≤ 166
unfolding worst_bits
worst_bits-most bytes l = go (bytes == 9)
  where
    go : (b : Bool) → (if b then 166 else 55 + 10 * bytes) ≤ 166
    go true = omega arith
    go false = omega arith

pub least_bits-least : (bytes : ℕ) → 1 ≤ least_bits bytes
unfolding least_bits
least_bits-least bytes = go (bytes == 9)
  where
    go : (b : Bool) → 1 ≤ (if b then 1 else 47 + 8 * bytes)
    go true = omega arith
    go false = omega arith

pub least_bits-most : (bytes : ℕ) → least_bits bytes ≤ worst_bits bytes
unfolding least_bits worst_bits
least_bits-most bytes = go (bytes == 9)
  where
    go : (b : Bool) → (if b then 1 else 47 + 8 * bytes) ≤ (if b then 166 else 55 + 10 * bytes)
    go true = omega arith
    go false = omega arith
