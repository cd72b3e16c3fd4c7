-- Patterns and bytes stand for the numbers that are written.
use Rattle.std.proofs.Common.{◌≡◌, ◌≤◌, ◌<◌, ◌+◌, ◌-◌, ◌*◌, ◌/◌, ◌%◌, ◌^◌, ◌==◌, ℕ, zero, suc, ℤ, pos, neg_ℤ, Bool, true, false, cond, nat_lt, nat_le, List, [], ◌∷◌, length, Some, None, refl, ap, sym, ◌∙◌, arith, pow-suc}
use Rattle.std.specs.Int.{bytes_low_first, byte_at}
use Rattle.std.specs.List.{All}
use Rattle.std.proofs.Math.Nat.{div-div-eq-div-mul}
use Rattle.std.proofs.lemmas.Int.{ints}
use Rattle.std.proofs.lemmas.Option.{cond_some}
use Rattle.std.proofs.lemmas.Bool.Decides.{nat_tests}
use Rattle.cop_eds.specs.declared.amount.Amount.{Amount}
use Rattle.cop_eds.specs.declared.amount.Amount.TheVariants.{Decimal, Negative, Hexadecimal, PlusNode}
use Rattle.cop_dict.specs.declared.data_type.DataType.{DataType}
use Rattle.cop_dict.specs.declared.data_type.DataType.TheVariants as types
use Rattle.cop_dict.specs.Types.{half_of, greatest_of}
use Rattle.cop_dict.specs.Number.{number, signed_from, value_of}
use Rattle.cop_dict.specs.Patterns.{at_most, negative, pattern_of, number_written}

written : (greatest n pattern : ℕ) (z : ℤ) → at_most greatest n ≡ Some pattern → Some (pos n) ≡ Some z → (n ≤ greatest) × (pattern ≡ n) × (z ≡ pos n)
written greatest n pattern z h w =
    let p = cond_some (nat_le n greatest) n pattern h in
    let same : z ≡ pos n = cc in
    (grind (arith, nat_tests, p.0), sym p.1, same)

signed_alone : (half pattern : ℕ) → pattern < half → signed_from half pattern ≡ pos pattern
signed_alone half pattern lt = let low : nat_lt pattern half ≡ true = grind (arith, nat_tests) in rw low refl

signed_below : (half n : ℕ) → 1 ≤ n → n ≤ half → signed_from half (2 * half - n) ≡ neg_ℤ (pos n)
signed_below half n some le =
    let high : nat_lt (2 * half - n) half ≡ false = grind (arith, nat_tests) in
    rw high (omega (arith, ints))

below : (half n pattern : ℕ) → 0 < half → negative (Some half) n ≡ Some pattern → signed_from half pattern ≡ neg_ℤ (pos n)
below half n pattern some h = by_zero (n == 0) refl h
  where
    by_fit : (b : Bool) → nat_le n half ≡ b → (n == 0) ≡ false → cond b (Some (2 * half - n)) None ≡ Some pattern → signed_from half pattern ≡ neg_ℤ (pos n)
    by_fit true t more h =
        let same : 2 * half - n ≡ pattern = cc in
        rw (← same) (signed_below half n (grind (arith, nat_tests)) (grind (arith, nat_tests)))
    by_fit false t more h = cc

    by_zero : (b : Bool) → (n == 0) ≡ b → cond b (Some 0) (cond (nat_le n half) (Some (2 * half - n)) None) ≡ Some pattern → signed_from half pattern ≡ neg_ℤ (pos n)
    by_zero true t h =
        let none : n ≡ 0 = grind (arith, nat_tests) in
        let same : 0 ≡ pattern = cc in
        rw (none, ← same) (signed_alone half 0 some)
    by_zero false t h = by_fit (nat_le n half) refl t h

-- in a type that isn't signed
plain : (t : DataType) (greatest node pattern : ℕ) (amount : Amount) (z : ℤ) → half_of t ≡ None → number_written node amount ≡ Some z
    → pattern_of t greatest node amount ≡ Some pattern → value_of t pattern ≡ z
plain t greatest node pattern (Decimal n) z half w h = let p = written greatest n pattern z h w in rw half (rw (p.1, p.2) refl)
plain t greatest node pattern (PlusNode n) z half w h = let p = written greatest (n + node) pattern z h w in rw half (rw (p.1, p.2) refl)
plain t greatest node pattern (Hexadecimal n) z half w h = cc
plain t greatest node pattern (Negative n) z half w h =
    let zero_alone = rw half at h in
    let p = cond_some (nat_le n 0) n pattern zero_alone in
    let none : n ≡ 0 = grind (arith, nat_tests, p.0) in
    let same : pattern ≡ 0 = sym p.1 ∙ none in
    let minus : neg_ℤ (pos n) ≡ z = cc in
    rw half (rw same (rw none at minus))

-- in a signed type
signed : (t : DataType) (half greatest node pattern : ℕ) (amount : Amount) (z : ℤ) → half_of t ≡ Some half → greatest < half → number_written node amount ≡ Some z
    → pattern_of t greatest node amount ≡ Some pattern → value_of t pattern ≡ z
signed t half greatest node pattern (Decimal n) z is lt w h =
    let p = written greatest n pattern z h w in
    rw is (signed_alone half pattern (omega (arith, p.0, p.1)) ∙ rw (p.1, p.2) refl)
signed t half greatest node pattern (PlusNode n) z is lt w h =
    let p = written greatest (n + node) pattern z h w in
    rw is (signed_alone half pattern (omega (arith, p.0, p.1)) ∙ rw (p.1, p.2) refl)
signed t half greatest node pattern (Hexadecimal n) z is lt w h = cc
signed t half greatest node pattern (Negative n) z is lt w h =
    let minus : neg_ℤ (pos n) ≡ z = cc in
    rw is (below half n pattern (omega arith) (rw is at h) ∙ minus)

pub stands_for : (t : DataType) (greatest node pattern : ℕ) (amount : Amount) (z : ℤ) → greatest_of t ≡ Some greatest → number_written node amount ≡ Some z
    → pattern_of t greatest node amount ≡ Some pattern → value_of t pattern ≡ z
stands_for types.Boolean greatest node pattern amount z g w h = plain types.Boolean greatest node pattern amount z refl w h
stands_for types.Unsigned8 greatest node pattern amount z g w h = plain types.Unsigned8 greatest node pattern amount z refl w h
stands_for types.Unsigned16 greatest node pattern amount z g w h = plain types.Unsigned16 greatest node pattern amount z refl w h
stands_for types.Unsigned32 greatest node pattern amount z g w h = plain types.Unsigned32 greatest node pattern amount z refl w h
stands_for types.Unsigned64 greatest node pattern amount z g w h = plain types.Unsigned64 greatest node pattern amount z refl w h
stands_for types.Integer8 greatest node pattern amount z g w h = let is : 2 ^ 7 - 1 ≡ greatest = cc in signed types.Integer8 (2 ^ 7) greatest node pattern amount z refl (omega arith) w h
stands_for types.Integer16 greatest node pattern amount z g w h = let is : 2 ^ 15 - 1 ≡ greatest = cc in signed types.Integer16 (2 ^ 15) greatest node pattern amount z refl (omega arith) w h
stands_for types.Integer32 greatest node pattern amount z g w h = let is : 2 ^ 31 - 1 ≡ greatest = cc in signed types.Integer32 (2 ^ 31) greatest node pattern amount z refl (omega arith) w h
stands_for types.Integer64 greatest node pattern amount z g w h = let is : 2 ^ 63 - 1 ≡ greatest = cc in signed types.Integer64 (2 ^ 63) greatest node pattern amount z refl (omega arith) w h
stands_for types.Real32 greatest node pattern amount z g w h = cc
stands_for types.Real64 greatest node pattern amount z g w h = cc
stands_for types.VisibleString greatest node pattern amount z g w h = cc
stands_for types.OctetString greatest node pattern amount z g w h = cc
stands_for types.Domain greatest node pattern amount z g w h = cc
stands_for types.Opaque greatest node pattern amount z g w h = cc

byte_up : (i n : ℕ) → byte_at (suc i) n ≡ byte_at i (n / 256)
byte_up zero n = refl
byte_up (suc i) n =
    let more : 256 ^ suc (suc i) ≡ 256 * 256 ^ suc i = pow_up (suc i) in
    rw more (ap (λ k. k % 256) (sym (div-div-eq-div-mul n 256 (256 ^ suc i))))
  where
    pow_up : (k : ℕ) → 256 ^ suc k ≡ 256 * 256 ^ k
    pow_up k = omega (arith, pow-suc 256 k)

bytes_up : (i width n : ℕ) → bytes_low_first (suc i) width n ≡ bytes_low_first i width (n / 256)
bytes_up i zero n = refl
bytes_up i (suc width) n = rw (byte_up i n) (ap (λ bytes. byte_at i (n / 256) ∷ bytes) (bytes_up (suc i) width n))

pub own_number : (width n : ℕ) → n < 256 ^ width → number (bytes_low_first 0 width n) ≡ n
own_number zero n lt = omega arith
own_number (suc width) n lt =
    let less : n / 256 < 256 ^ width = omega (arith, pow-suc 256 width) in
    rw (bytes_up 0 width n) (rw (own_number width (n / 256) less) (omega arith))

pub own_bytes : (bytes : List ℕ) → All (λ byte. byte < 256) bytes → bytes_low_first 0 (length bytes) (number bytes) ≡ bytes
own_bytes [] small = refl
own_bytes (b ∷ bs) small =
    let first : b < 256 = small 0 b (omega arith) in
    let low : (b + 256 * number bs) % 256 ≡ b = omega arith in
    let high : (b + 256 * number bs) / 256 ≡ number bs = omega arith in
    rw (bytes_up 0 (length bs) (b + 256 * number bs), low, high) (ap (λ rest. b ∷ rest) (own_bytes bs (λ k d lt. small (suc k) d (omega arith))))
