-- The rate of so many kbit/s.
use Rattle.std.proofs.Common.{◌≡◌, ◌≢◌, ◌≤◌, ◌<◌, ◌^◌, ℕ, ℤ, pos, negsuc, Option, Some, None, refl, sym, ap, ◌∙◌, arith}
use lib.IntN.{nat_abs}
use Rattle.std.specs.Option.{IfSome, IfNone}
use Rattle.std.specs.Int.{FitsUnsignedBits}
use Rattle.std.proofs.lemmas.Bool.Decides.{nat_tests}
use Rattle.cop_frame.specs.declared.rates.Rate.{Rate}
use Rattle.cop_frame.specs.declared.rates.Rate.TheVariants.{Kbit10, Kbit20, Kbit50, Kbit125, Kbit250, Kbit500, Kbit800, Kbit1000}
use Rattle.cop_frame.specs.Rate.{kbits_of}
use Rattle.cop_project.specs.Project.{rate_of_kbits, rate_of}

found : (r : Rate) → rate_of_kbits (kbits_of r) ≡ Some r
found Kbit10 = refl
found Kbit20 = refl
found Kbit50 = refl
found Kbit125 = refl
found Kbit250 = refl
found Kbit500 = refl
found Kbit800 = refl
found Kbit1000 = refl

none : (n : ℕ) → 10 ≢ n → 20 ≢ n → 50 ≢ n → 125 ≢ n → 250 ≢ n → 500 ≢ n → 800 ≢ n → 1000 ≢ n → rate_of_kbits n ≡ None
none n a b c d e f g h = grind (arith, nat_tests)

-- no rate has more than 1000
pub none_above : (n : ℕ) → 1001 ≤ n → rate_of_kbits n ≡ None
none_above n h = none n (omega arith) (omega arith) (omega arith) (omega arith) (omega arith) (omega arith) (omega arith) (omega arith)

pub rate_found : (r : Option Rate) (n : ℕ) → IfSome r (λ r. kbits_of r ≡ n) → IfNone r ((r : Rate) → kbits_of r ≢ n) → r ≡ rate_of_kbits n
rate_found None n f g = sym (none n (g Kbit10) (g Kbit20) (g Kbit50) (g Kbit125) (g Kbit250) (g Kbit500) (g Kbit800) (g Kbit1000))
rate_found (Some r) n f g = rw (← f) (sym (found r))

-- the number that a signed one is cast to
pub rate_cast : (z : ℤ) (r : Option Rate) (n : ℕ) → pos n ≡ z → IfSome r (λ r. kbits_of r ≡ n) → IfNone r ((r : Rate) → kbits_of r ≢ n) → r ≡ rate_of z
rate_cast z r n e f g = rw (← e) (rate_found r n f g)

-- a signed number that is cast to none has no rate
pub no_rate : (z : ℤ) → ¬ (FitsUnsignedBits 32 z) → None ≡ rate_of z
no_rate (pos n) h = sym (none_above n (above n h))
  where
    above : (n : ℕ) → ¬ (n < 2 ^ 32) → 1001 ≤ n
    above n h = omega arith
no_rate (negsuc n) h = refl

-- the number to which a signed one is cast that has no more than 32 bits
pub cast_of : (y z : ℤ) (n : ℕ) → y ≡ z → FitsUnsignedBits 32 y × (n ≡ nat_abs y) → pos n ≡ z
cast_of (pos m) z n e h = ap (λ k. pos k) h.1 ∙ e
cast_of (negsuc m) z n e h = absurd h.0

pub no_cast : (y z : ℤ) → y ≡ z → ¬ (FitsUnsignedBits 32 y) → None ≡ rate_of z
no_cast y z e h = rw (← e) (no_rate y h)
