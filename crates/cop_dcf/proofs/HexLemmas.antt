-- A value in hexadecimal digits is read as the number that it is.
use Rattle.std.proofs.Common.{◌≡◌, ◌<◌, ◌≤◌, ℕ, ◌+◌, ◌*◌, ◌-◌, ◌/◌, ◌%◌, ◌^◌, Bool, true, false, cond, ◌&&◌, ◌||◌, ◌==◌, nat_lt, List, [], ◌∷◌, ◌++◌, length, reverse, Some, Ok, refl, sym, ap, ◌∙◌, arith, append_assoc, length-append}
use Rattle.std.proofs.lemmas.Bool.Decides.{nat_tests}
use Rattle.std.proofs.lemmas.Grind.{flat_map-append, reverse_onto}
use Rattle.std.proofs.lemmas.List.Folds.{list_all-append}
use Rattle.std.specs.List.{flat_map, list_all, list_any}
use Rattle.std.specs.Char.{is_digit, digit_value}
use Rattle.std.specs.Str.Parse.{digits_value}
use Rattle.std.proofs.lemmas.Int.Digits.{digits_value_push}
use Rattle.cop_eds.specs.declared.amount.Amount.TheVariants.{Hexadecimal}
use Rattle.cop_eds.specs.Number.{number_in}
use Rattle.cop_eds.specs.Amount.{amount_of}
use Rattle.cop_dict.specs.Number.{number}
use Rattle.cop_dcf.specs.Dcf.{digit, digits_of, hexadecimal}

-- digits, the most significant byte's first
abbrev pub hex_digits : List ℕ → List ℕ
hex_digits bytes = flat_map digits_of (reverse bytes)

unfoldable pub AreBytes : List ℕ → Type 0
AreBytes [] = Unit {0}
AreBytes (b ∷ bs) = (b < 256) × AreBytes bs

digit_is : (d : ℕ) → d < 16 → digit_value (digit d) ≡ d
digit_is d small = by_test (nat_lt d 10) refl
  where
    by_test : (b : Bool) → nat_lt d 10 ≡ b → digit_value (cond b (48 + d) (55 + d)) ≡ d
    by_test true e =
        let a : nat_lt (48 + d) 48 ≡ false = grind (arith, nat_tests) in
        let b : nat_lt (48 + d) 58 ≡ true = grind (arith, nat_tests) in
        let c : 48 + d - 48 ≡ d = omega arith in
        rw (a, b, c) refl
    by_test false e =
        let a : nat_lt (55 + d) 48 ≡ false = grind (arith, nat_tests) in
        let b : nat_lt (55 + d) 58 ≡ false = grind (arith, nat_tests) in
        let f : nat_lt (55 + d) 65 ≡ false = grind (arith, nat_tests) in
        let g : nat_lt (55 + d) 91 ≡ true = grind (arith, nat_tests) in
        let c : 55 + d - 55 ≡ d = omega arith in
        rw (a, b, f, g, c) refl

more : (b : ℕ) (bs : List ℕ) → hex_digits (b ∷ bs) ≡ (hex_digits bs ++ digit (b / 16) ∷ []) ++ digit (b % 16) ∷ []
more b bs =
    ap (flat_map digits_of) (reverse_onto bs b [])
    ∙ flat_map-append digits_of (reverse bs) (b ∷ [])
    ∙ sym (append_assoc (hex_digits bs) (digit (b / 16) ∷ []) (digit (b % 16) ∷ []))

value_is : (bytes : List ℕ) → AreBytes bytes → digits_value 16 (hex_digits bytes) ≡ number bytes
unfolding AreBytes
value_is [] h = refl
value_is (b ∷ bs) h =
    let small : b < 256 = h.0 in
    let high : digit_value (digit (b / 16)) ≡ b / 16 = digit_is (b / 16) (omega arith) in
    let low : digit_value (digit (b % 16)) ≡ b % 16 = digit_is (b % 16) (omega arith) in
    let rest = value_is bs h.1 in
    ap (digits_value 16) (more b bs)
    ∙ digits_value_push 16 (hex_digits bs ++ digit (b / 16) ∷ []) (digit (b % 16))
    ∙ ap (λ n. n * 16 + digit_value (digit (b % 16))) (digits_value_push 16 (hex_digits bs) (digit (b / 16)))
    ∙ (rw (high, low, rest) (omega arith))

all_pass : (p : ℕ → Bool) → ((d : ℕ) → d < 16 → p (digit d) ≡ true) → (bytes : List ℕ) → AreBytes bytes → list_all p (hex_digits bytes) ≡ true
unfolding AreBytes
all_pass p each [] h = refl
all_pass p each (b ∷ bs) h =
    let small : b < 256 = h.0 in
    let high : p (digit (b / 16)) ≡ true = each (b / 16) (omega arith) in
    let low : p (digit (b % 16)) ≡ true = each (b % 16) (omega arith) in
    let rest = all_pass p each bs h.1 in
    ap (list_all p) (more b bs)
    ∙ list_all-append p (hex_digits bs ++ digit (b / 16) ∷ []) (digit (b % 16) ∷ [])
    ∙ ap (λ t. t && list_all p (digit (b % 16) ∷ [])) (list_all-append p (hex_digits bs) (digit (b / 16) ∷ []))
    ∙ (rw (rest, high, low) refl)

digit_passes : (d : ℕ) → d < 16 → is_digit (digit d) 16 ≡ true
digit_passes d small = let e : digit_value (digit d) ≡ d = digit_is d small in rw e (grind (arith, nat_tests))

-- a hexadecimal digit is no blank, no sign, and stands in no line's end
digit_above : (d : ℕ) → d < 16 → (48 ≤ digit d) × (digit d < 71)
digit_above d small = by_test (nat_lt d 10) refl
  where
    by_test : (b : Bool) → nat_lt d 10 ≡ b → (48 ≤ cond b (48 + d) (55 + d)) × (cond b (48 + d) (55 + d) < 71)
    by_test true e = (omega arith, grind (arith, nat_tests))
    by_test false e = (omega arith, omega arith)

abbrev pub is_fine : ℕ → Bool
is_fine c = nat_lt 47 c

pub all_fine : (bytes : List ℕ) → AreBytes bytes → list_all is_fine (hexadecimal bytes) ≡ true
all_fine bytes h = all_pass (λ c. nat_lt 47 c) (λ d small. let le : 48 ≤ digit d = (digit_above d small).0 in grind (arith, nat_tests)) bytes h

length_more : (b : ℕ) (bs : List ℕ) → length (hex_digits (b ∷ bs)) ≡ length (hex_digits bs) + 2
length_more b bs =
    ap length (more b bs) ∙ length-append (hex_digits bs ++ digit (b / 16) ∷ []) (digit (b % 16) ∷ [])
    ∙ ap (λ n. n + 1) (length-append (hex_digits bs) (digit (b / 16) ∷ [])) ∙ omega arith

no_plus : (cs : List ℕ) → list_all is_fine cs ≡ true → list_any (λ b. b == 43) cs ≡ false
no_plus [] h = refl
no_plus (c ∷ cs) h = by_test (nat_lt 47 c) refl h (no_plus cs)
  where
    by_test : (b : Bool) → nat_lt 47 c ≡ b → b && list_all (λ c. nat_lt 47 c) cs ≡ true → (list_all is_fine cs ≡ true → list_any (λ b. b == 43) cs ≡ false)
        → ((c == 43) || list_any (λ b. b == 43) cs) ≡ false
    by_test false e k later = cc
    by_test true e k later =
        let other : (c == 43) ≡ false = grind (arith, nat_tests) in
        rw other (later k)

-- the digits are a numeral for the number
number_is : (bytes : List ℕ) → AreBytes bytes → 1 ≤ length bytes → number bytes < 2 ^ 64 → number_in 16 (hex_digits bytes) ≡ Some (number bytes)
number_is bytes h some small =
    let e : digits_value 16 (hex_digits bytes) ≡ number bytes = value_is bytes h in
    let digits : list_all (λ c. is_digit c 16) (hex_digits bytes) ≡ true = all_pass (λ c. is_digit c 16) digit_passes bytes h in
    let long : nat_lt 0 (length (hex_digits bytes)) ≡ true = longer bytes some in
    let fits : nat_lt (number bytes) (2 ^ 64) ≡ true = grind (arith, nat_tests) in
    rw (long, digits, e, fits) refl
  where
    longer : (bytes : List ℕ) → 1 ≤ length bytes → nat_lt 0 (length (hex_digits bytes)) ≡ true
    longer [] le = absurd (omega arith)
    longer (b ∷ bs) le = let e = length_more b bs in grind (arith, nat_tests)

-- what a value in hexadecimal digits is read as
pub amount_is : (bytes : List ℕ) → AreBytes bytes → 1 ≤ length bytes → number bytes < 2 ^ 64 → amount_of (hexadecimal bytes) ≡ Ok (Hexadecimal (number bytes))
amount_is bytes h some small =
    let none : list_any (λ b. b == 43) (hex_digits bytes) ≡ false = no_plus (hex_digits bytes) (all_fine bytes h) in
    let n : number_in 16 (hex_digits bytes) ≡ Some (number bytes) = number_is bytes h some small in
    rw (none, n) refl
