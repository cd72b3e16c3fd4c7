-- A name's bytes, without ASCII case, are mixed into a number eight at a time.
use Rattle.std.proofs.Common.{◌≡◌, ℕ, zero, suc, ◌+◌, ◌*◌, ◌/◌, ◌%◌, ◌^◌, ◌<◌, ◌≤◌, ◌-◌, Bool, true, false, cond, nat_lt, List, [], ◌∷◌, length, take, drop, slice_index, bit_and, refl, sym, ap, ◌∙◌, arith}
use Rattle.std.specs.Char.{to_ascii_lowercase}
use Rattle.std.specs.Str.{str_to_ascii_lowercase}
use Rattle.std.specs.Int.{w64, from_le_bytes}
use Rattle.std.specs.Int.Bits.{and_zero_l}
use Rattle.std.proofs.lemmas.List.{take-map, drop-map, length-map}
use Rattle.std.proofs.lemmas.Bool.Decides.{nat_tests}
use Rattle.std.proofs.lemmas.Nat.{and_mask, and_mod, and_shr}
use Rattle.cop_eds.specs.Tickets.{stirred, low_bits, mixed_each, mixed_by, mixed}

-- a letter's two cases have the low five bits in common
lower_low : (b : ℕ) → to_ascii_lowercase b % 32 ≡ b % 32
lower_low b = by_test (nat_lt b 65) (nat_lt b 91)
  where
    by_test : (p q : Bool) → cond p b (cond q (b + 32) b) % 32 ≡ b % 32
    by_test true q = refl
    by_test false true = omega arith
    by_test false false = refl

-- one byte at a time

pub one_more : (n a x sum total : ℕ) (rest tail : List ℕ) → rest ≡ a ∷ tail → x ≡ a % 32 → sum ≡ stirred n x
    → mixed_each n (str_to_ascii_lowercase rest) ≡ total → mixed_each sum (str_to_ascii_lowercase tail) ≡ total
unfolding mixed_each
one_more n a x sum total rest tail whole low stir so_far =
    let step : sum ≡ stirred n (to_ascii_lowercase a % 32) = stir ∙ ap (stirred n) (low ∙ sym (lower_low a)) in
    ap (λ s. mixed_each s (str_to_ascii_lowercase tail)) step ∙ sym (ap (λ r. mixed_each n (str_to_ascii_lowercase r)) whole) ∙ so_far

-- eight bytes as one number

abbrev folded : List ℕ → ℕ
folded [] = 0
folded (b ∷ bs) = b + folded bs * 256

abbrev masks : ℕ → ℕ
masks zero = 0
masks (suc k) = 31 + masks k * 256

byte_and : (a n m : ℕ) → a < 256 → bit_and (a + n * 256) (31 + m * 256) ≡ a % 32 + bit_and n m * 256
byte_and a n m small =
    let a_is : (a + n * 256) % 2 ^ 8 ≡ a = omega (arith, small) in
    let b_is : (31 + m * 256) % 2 ^ 8 ≡ 31 = omega arith in
    let n_is : (a + n * 256) / 2 ^ 8 ≡ n = omega (arith, small) in
    let m_is : (31 + m * 256) / 2 ^ 8 ≡ m = omega arith in
    let low : bit_and (a + n * 256) (31 + m * 256) % 2 ^ 8 ≡ a % 32 =
    and_mod (a + n * 256) (31 + m * 256) 8 ∙ ap (λ x. bit_and x ((31 + m * 256) % 2 ^ 8)) a_is ∙ ap (bit_and a) b_is ∙ and_mask a 5 in
    let high : bit_and (a + n * 256) (31 + m * 256) / 2 ^ 8 ≡ bit_and n m =
    and_shr (a + n * 256) (31 + m * 256) 8 ∙ ap (λ x. bit_and x ((31 + m * 256) / 2 ^ 8)) n_is ∙ ap (bit_and n) m_is in
    omega (arith, low, high)

low_each : (bs : List ℕ) → ((k : ℕ) → slice_index bs k < 256) → bit_and (folded bs) (masks (length bs)) ≡ low_bits (str_to_ascii_lowercase bs)
unfolding low_bits
low_each [] small = and_zero_l 0
low_each (b ∷ bs) small =
    byte_and b (folded bs) (masks (length bs)) (small 0)
    ∙ ap (λ n. b % 32 + n * 256) (low_each bs (λ k. small (suc k)))
    ∙ ap (λ r. r + low_bits (str_to_ascii_lowercase bs) * 256) (sym (lower_low b))

word_is : (bs : List ℕ) → length bs ≡ 8 → from_le_bytes w64 bs ≡ folded bs
word_is [] size = absurd (omega arith)
word_is (a ∷ []) size = absurd (omega arith)
word_is (a ∷ b ∷ []) size = absurd (omega arith)
word_is (a ∷ b ∷ c ∷ []) size = absurd (omega arith)
word_is (a ∷ b ∷ c ∷ d ∷ []) size = absurd (omega arith)
word_is (a ∷ b ∷ c ∷ d ∷ e ∷ []) size = absurd (omega arith)
word_is (a ∷ b ∷ c ∷ d ∷ e ∷ f ∷ []) size = absurd (omega arith)
word_is (a ∷ b ∷ c ∷ d ∷ e ∷ f ∷ g ∷ []) size = absurd (omega arith)
word_is (a ∷ b ∷ c ∷ d ∷ e ∷ f ∷ g ∷ h ∷ []) size = omega arith
word_is (a ∷ b ∷ c ∷ d ∷ e ∷ f ∷ g ∷ h ∷ i ∷ bs) size = absurd (omega arith)

pub low_bits_is : (bs : List ℕ) (word : ℕ) → length bs ≡ 8 → ((k : ℕ) → slice_index bs k < 256) → word ≡ from_le_bytes w64 bs
    → bit_and word 2242545357980376863 ≡ low_bits (str_to_ascii_lowercase bs)
low_bits_is bs word size small is =
    let mask : 2242545357980376863 ≡ masks (length bs) = sym (ap masks size) in
    ap (λ w. bit_and w 2242545357980376863) (is ∙ word_is bs size) ∙ ap (bit_and (folded bs)) mask ∙ low_each bs small

-- eight bytes at a time, and then the last eight

pub eight_more : (n more sum total : ℕ) (rest bytes tail : List ℕ) → bytes ≡ take 8 rest → tail ≡ drop 8 rest → length tail + 8 ≡ length rest
    → more ≡ low_bits (str_to_ascii_lowercase bytes) → sum ≡ stirred n more → mixed_by (length rest / 8) n (str_to_ascii_lowercase rest) ≡ total
    → mixed_by (length tail / 8) sum (str_to_ascii_lowercase tail) ≡ total
unfolding mixed_by
eight_more n more sum total rest bytes tail first second size low stir so_far =
    let lower = str_to_ascii_lowercase rest in
    let count : length rest / 8 ≡ suc (length tail / 8) = omega (arith, size) in
    let whole : mixed_by (suc (length tail / 8)) n lower ≡ total = ap (λ k. mixed_by k n lower) (sym count) ∙ so_far in
    let front : take 8 lower ≡ str_to_ascii_lowercase bytes = take-map to_ascii_lowercase 8 rest ∙ ap str_to_ascii_lowercase (sym first) in
    let back : drop 8 lower ≡ str_to_ascii_lowercase tail = drop-map to_ascii_lowercase 8 rest ∙ ap str_to_ascii_lowercase (sym second) in
    let step : sum ≡ stirred n (low_bits (take 8 lower)) = stir ∙ ap (stirred n) (low ∙ ap low_bits (sym front)) in
    ap (λ s. mixed_by (length tail / 8) s (str_to_ascii_lowercase tail)) step
    ∙ ap (mixed_by (length tail / 8) (stirred n (low_bits (take 8 lower)))) (sym back) ∙ whole

pub at_end : (n : ℕ) (rest : List ℕ) → length rest < 8 → mixed_by (length rest / 8) n (str_to_ascii_lowercase rest) ≡ n
unfolding mixed_by
at_end n rest short = let none : length rest / 8 ≡ 0 = omega (arith, short) in ap (λ k. mixed_by k n (str_to_ascii_lowercase rest)) none

below_eight : (n : ℕ) → n < 8 → nat_lt n 8 ≡ true
below_eight n lt = grind (arith, nat_tests)

not_below_eight : (n : ℕ) → 8 ≤ n → nat_lt n 8 ≡ false
not_below_eight n le = grind (arith, nat_tests)

by_length : List ℕ → Bool → ℕ
by_length name short = cond short (mixed_each 0 name) (stirred (mixed_by (length name / 8) 0 name) (low_bits (drop (length name - 8) name)))

pub short_mixed : (name : List ℕ) (sum : ℕ) → length name < 8 → sum ≡ mixed_each 0 (str_to_ascii_lowercase name) → sum ≡ mixed (str_to_ascii_lowercase name)
unfolding by_length
short_mixed name sum short is =
    let lower = str_to_ascii_lowercase name in
    let size : length lower ≡ length name = length-map name to_ascii_lowercase in
    is ∙ sym (ap (by_length lower) (below_eight (length lower) (omega (arith, size, short))))

pub long_mixed : (name last : List ℕ) (eights more sum : ℕ) → last ≡ drop (length name - 8) name → 8 ≤ length name
    → eights ≡ mixed_by (length name / 8) 0 (str_to_ascii_lowercase name) → more ≡ low_bits (str_to_ascii_lowercase last) → sum ≡ stirred eights more
    → sum ≡ mixed (str_to_ascii_lowercase name)
unfolding by_length
long_mixed name last eights more sum at_last long its_eights its_more is =
    let lower = str_to_ascii_lowercase name in
    let size : length lower ≡ length name = length-map name to_ascii_lowercase in
    let back : drop (length lower - 8) lower ≡ str_to_ascii_lowercase last =
    ap (λ n. drop (n - 8) lower) size ∙ drop-map to_ascii_lowercase (length name - 8) name ∙ ap str_to_ascii_lowercase (sym at_last) in
    let front : mixed_by (length lower / 8) 0 lower ≡ eights = ap (λ n. mixed_by (n / 8) 0 lower) size ∙ sym its_eights in
    is ∙ ap (λ n. stirred n more) (sym front) ∙ ap (stirred (mixed_by (length lower / 8) 0 lower)) (its_more ∙ ap low_bits (sym back))
    ∙ sym (ap (by_length lower) (not_below_eight (length lower) (omega (arith, size, long))))
