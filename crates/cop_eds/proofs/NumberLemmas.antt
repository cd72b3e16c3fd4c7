-- A number that is read digit by digit.
use Rattle.std.proofs.Common.{◌≡◌, ℕ, zero, suc, ◌+◌, ◌*◌, ◌^◌, ◌<◌, ◌≤◌, Bool, true, false, List, [], ◌∷◌, length, refl, sym, ◌∙◌, arith, nat_lt, mul-suc, Some, None, ◌&&◌, cond, ap, lit≤}
use Rattle.std.specs.List.{list_all}
use Rattle.std.specs.Char.{is_digit, digit_value}
use Rattle.std.specs.Str.Parse.{digits_value, digits_value_after}
use Rattle.std.proofs.lemmas.Bool.Decides.{nat_tests}
use Rattle.std.proofs.Math.Nat.{mul-le-mul_right, mul_assoc, pow-succ', pow-le-pow_right}
use Rattle.cop_eds.specs.Number.{number_in, is_numeral, with_digit}

scale : (n radix : ℕ) → 1 ≤ radix → n ≤ n * radix
scale n zero h = absurd (omega arith)
scale n (suc r) h = omega (arith, mul-suc n r)

pub grows : (radix n : ℕ) (ds : List ℕ) → 2 ≤ radix → n ≤ digits_value_after radix n ds
grows radix n [] h = omega arith
grows radix n (d ∷ ds) h = omega (arith, scale n radix (omega arith), grows radix (n * radix + digit_value d) ds h)

no_digits : (radix : ℕ) (ds : List ℕ) → list_all (λ c. is_digit c radix) ds ≡ false → number_in radix ds ≡ None
no_digits radix ds e = grind (arith, nat_tests)

too_large : (radix : ℕ) (ds : List ℕ) → 2 ^ 64 ≤ digits_value radix ds → number_in radix ds ≡ None
too_large radix ds h = grind (arith, nat_tests)

stops_by : (a b : Bool) (radix n c : ℕ) (cs ds : List ℕ) → is_digit c radix ≡ a → nat_lt (n * radix + digit_value c) (2 ^ 64) ≡ b
    → 2 ≤ radix → with_digit radix n c ≡ None
    → list_all (λ c. is_digit c radix) (c ∷ cs) ≡ list_all (λ c. is_digit c radix) ds
    → digits_value_after radix n (c ∷ cs) ≡ digits_value radix ds
    → number_in radix ds ≡ None
stops_by false b radix n c cs ds p q h stuck digits value = no_digits radix ds (sym digits ∙ rw p refl)
stops_by true false radix n c cs ds p q h stuck digits value =
    let large : 2 ^ 64 ≤ n * radix + digit_value c = grind (arith, nat_tests) in
    too_large radix ds (omega (arith, grows radix (n * radix + digit_value c) cs h))
stops_by true true radix n c cs ds p q h stuck digits value = let some = rw (p, q) at stuck in cc

pub stops : (radix n c : ℕ) (cs ds : List ℕ) → 2 ≤ radix → with_digit radix n c ≡ None
    → list_all (λ c. is_digit c radix) (c ∷ cs) ≡ list_all (λ c. is_digit c radix) ds
    → digits_value_after radix n (c ∷ cs) ≡ digits_value radix ds
    → number_in radix ds ≡ None
stops radix n c cs ds h stuck digits value = stops_by _ _ radix n c cs ds refl refl h stuck digits value

pub ends : (radix n : ℕ) (rest ds : List ℕ) → rest ≡ [] → 0 < length ds → n < 2 ^ 64
    → list_all (λ c. is_digit c radix) rest ≡ list_all (λ c. is_digit c radix) ds
    → digits_value_after radix n rest ≡ digits_value radix ds
    → Some n ≡ number_in radix ds
ends radix n rest ds none some fits digits value =
    let all : list_all (λ c. is_digit c radix) ds ≡ true = sym digits ∙ rw none refl in
    let same : n ≡ digits_value radix ds = sym (rw none refl) ∙ value in
    grind (arith, nat_tests)

and_left : (a b : Bool) → a && b ≡ true → a ≡ true
and_left true b e = refl
and_left false b e = e

and_right : (a b : Bool) → a && b ≡ true → b ≡ true
and_right true b e = e
and_right false b e = cc

-- what digits write is below the power of the radix that they are many
below_after : (ds : List ℕ) (n : ℕ) → list_all (λ c. is_digit c 16) ds ≡ true → digits_value_after 16 n ds < (n + 1) * 16 ^ length ds
below_after [] n h = omega arith
below_after (d ∷ ds) n h =
    let first : is_digit d 16 ≡ true = and_left (is_digit d 16) (list_all (λ c. is_digit c 16) ds) h in
    let digit : digit_value d < 16 = grind (arith, nat_tests) in
    let later : digits_value_after 16 (n * 16 + digit_value d) ds < (n * 16 + digit_value d + 1) * 16 ^ length ds = below_after ds (n * 16 + digit_value d) (and_right (is_digit d 16) (list_all (λ c. is_digit c 16) ds) h) in
    let grown : (n * 16 + digit_value d + 1) * 16 ^ length ds ≤ ((n + 1) * 16) * 16 ^ length ds = mul-le-mul_right (16 ^ length ds) (omega arith) in
    let power : ((n + 1) * 16) * 16 ^ length ds ≡ (n + 1) * (16 * 16 ^ length ds) = mul_assoc (n + 1) 16 (16 ^ length ds) in
    let whole : (n + 1) * 16 ^ suc (length ds) ≡ (n + 1) * (16 * 16 ^ length ds) = ap (λ p. (n + 1) * p) (pow-succ' 16 (length ds)) in
    rw whole (omega arith)

some_of : (b : Bool) (v n : ℕ) → cond b (Some v) None ≡ Some n → (b ≡ true) × (v ≡ n)
some_of true v n e = (refl, cc)
some_of false v n e = cc

below : (ds : List ℕ) (n k : ℕ) → number_in 16 ds ≡ Some n → length ds ≤ k → n < 16 ^ k
below ds n k e le =
    let p : (is_numeral 16 ds && nat_lt (digits_value 16 ds) (2 ^ 64) ≡ true) × (digits_value 16 ds ≡ n) = some_of (is_numeral 16 ds && nat_lt (digits_value 16 ds) (2 ^ 64)) (digits_value 16 ds) n e in
    let numeral : is_numeral 16 ds ≡ true = and_left (is_numeral 16 ds) (nat_lt (digits_value 16 ds) (2 ^ 64)) p.0 in
    let digits : list_all (λ c. is_digit c 16) ds ≡ true = and_right (nat_lt 0 (length ds)) (list_all (λ c. is_digit c 16) ds) numeral in
    let value : digits_value_after 16 0 ds < (0 + 1) * 16 ^ length ds = below_after ds 0 digits in
    let grown : 16 ^ length ds ≤ 16 ^ k = pow-le-pow_right {n = 16} (lit≤ tt) le in
    omega arith

pub index_fits : (ds : List ℕ) (n : ℕ) → number_in 16 ds ≡ Some n → length ds ≤ 4 → n < 65536
index_fits ds n e le = below ds n 4 e le

pub sub_fits : (ds : List ℕ) (n : ℕ) → number_in 16 ds ≡ Some n → length ds ≤ 2 → n < 256
sub_fits ds n e le = below ds n 2 e le
