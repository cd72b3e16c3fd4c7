-- Payloads, one entry more.
use Rattle.std.proofs.Common.{◌≡◌, ◌<◌, ◌≤◌, ◌+◌, ◌*◌, ◌^◌, ◌%◌, ℕ, zero, suc, Bool, true, List, [], ◌∷◌, ◌++◌, length, refl, ap, sym, arith, ◌∙◌, mul_comm, length-append, take, drop, get_or, All, ◌-◌, lit<, ⊎_elim, mul-le-mul_right}
use Rattle.std.proofs.Math.Nat.{mul-lt-mul_of_pos_right, pow-le-pow_right, mod-eq_of_lt}
use Rattle.std.proofs.lemmas.Bool.{cases_lt}
use Rattle.std.proofs.lemmas.Nat.{pow-add, pow_pos}
use Rattle.std.proofs.lemmas.List.Sums.{sum_by-cons}
use Rattle.std.proofs.Math.Seq.{take-length}
use Rattle.std.proofs.lemmas.List.Elements.{All-tail}
use Rattle.cop_dict.specs.declared.mapping.Direction.{Direction}
use Rattle.cop_dict.specs.declared.mapping.Mapped.{Mapped}
use Rattle.cop_dict.specs.Find.{Entry}
use Rattle.cop_dict.specs.Mapping.{total_bits}
use Rattle.cop_pdo.specs.Payload.{is_there}
use Rattle.cop_pdo.specs.Bits.{bits_of_number, number_of_bits, bits_of_entries, mapped_number}
use Rattle.cop_pdo.proofs.BitLemmas.{number_appended, length_lowest, number_small}

-- the number of an entry's bits and those after them
pub one_more : (n value : ℕ) (bits : List Bool) → number_of_bits (bits_of_number n value ++ bits) ≡ number_of_bits (bits_of_number n value) + number_of_bits bits * 2 ^ n
one_more n value bits =
    number_appended (bits_of_number n value) bits ∙ rw (length_lowest n value) (ap (λ (m : ℕ). number_of_bits (bits_of_number n value) + m) (mul_comm (2 ^ n) (number_of_bits bits)))

pub entries_length : (dict : List Entry) (direction : Direction) (entries : List Mapped) → length (bits_of_entries dict direction entries) ≡ total_bits entries
entries_length dict direction [] = refl
entries_length dict direction (m ∷ rest) =
    rw (sum_by-cons (λ (m : Mapped). m.bits) m rest)
    (length-append (bits_of_number m.bits (mapped_number dict direction m)) (bits_of_entries dict direction rest)
    ∙ rw (length_lowest m.bits (mapped_number dict direction m), entries_length dict direction rest) refl)

abbrev pub none : Mapped
none = record { index = 0; sub = 0; bits = 0 }

abbrev pub rest_of : List Mapped → List Mapped
rest_of xs = take (length xs - 1) (drop 1 xs)

-- a list with an element is its first and the rest
whole : (xs : List Mapped) → 1 ≤ length xs → xs ≡ get_or xs 0 none ∷ rest_of xs
whole [] h = absurd (omega arith)
whole (x ∷ xs) h = let e : suc (length xs) - 1 ≡ length xs = omega arith in ap (λ (ys : List Mapped). x ∷ ys) (sym (rw e (take-length xs)))

pub rest_there : (dict : List Entry) (direction : Direction) (xs : List Mapped) → 1 ≤ length xs → All (λ mapped. is_there dict direction mapped ≡ true) xs → All (λ mapped. is_there dict direction mapped ≡ true) (rest_of xs)
rest_there dict direction [] h all = absurd (omega arith)
rest_there dict direction (x ∷ xs) h all =
    let e : suc (length xs) - 1 ≡ length xs = omega arith in
    rw (e, take-length xs) (All-tail (λ mapped. is_there dict direction mapped ≡ true) x xs all)

pub first_there : (dict : List Entry) (direction : Direction) (xs : List Mapped) → 1 ≤ length xs → All (λ mapped. is_there dict direction mapped ≡ true) xs → is_there dict direction (get_or xs 0 none) ≡ true
first_there dict direction xs h all = all 0 none h

pub rest_bits : (xs : List Mapped) → 1 ≤ length xs → total_bits xs ≡ (get_or xs 0 none).bits + total_bits (rest_of xs)
rest_bits [] h = absurd (omega arith)
rest_bits (x ∷ xs) h =
    let e : suc (length xs) - 1 ≡ length xs = omega arith in
    rw (e, take-length xs) (sum_by-cons (λ (m : Mapped). m.bits) x xs)

pub rest_payload : (dict : List Entry) (direction : Direction) (xs : List Mapped) → 1 ≤ length xs
    → number_of_bits (bits_of_entries dict direction xs) ≡ number_of_bits (bits_of_number (get_or xs 0 none).bits (mapped_number dict direction (get_or xs 0 none))) + number_of_bits (bits_of_entries dict direction (rest_of xs)) * 2 ^ (get_or xs 0 none).bits
rest_payload dict direction [] h = absurd (omega arith)
rest_payload dict direction (x ∷ xs) h =
    let e : suc (length xs) - 1 ≡ length xs = omega arith in
    rw (e, take-length xs) (one_more x.bits (mapped_number dict direction x) (bits_of_entries dict direction xs))

-- a number of the bits that are left, raised, still fits
pub raised_fits : (n b r t : ℕ) → n < 2 ^ r → t ≡ b + r → t ≤ 64 → n * 2 ^ b < 2 ^ 64
raised_fits n b r t h e le =
    let small : n * 2 ^ b < 2 ^ r * 2 ^ b = mul-lt-mul_of_pos_right h (pow_pos b) in
    let all : r + b ≤ 64 = omega arith in
    let whole : 2 ^ (r + b) ≤ 2 ^ 64 = pow-le-pow_right (lit< tt) all in
    omega (arith, small, rw (pow-add 2 r b) at whole)

pub payload_small : (dict : List Entry) (direction : Direction) (entries : List Mapped) → number_of_bits (bits_of_entries dict direction entries) < 2 ^ total_bits entries
payload_small dict direction entries = rw (← entries_length dict direction entries) (number_small (bits_of_entries dict direction entries))

pub wide_rest : (n b : ℕ) → n < 2 ^ 64 → 64 ≤ b → n ≡ n % 2 ^ b
wide_rest n b h le = let wide : 2 ^ 64 ≤ 2 ^ b = pow-le-pow_right (lit< tt) le in sym (mod-eq_of_lt (omega (arith, h, wide)))

pub raised_few : (n b : ℕ) → (n ≡ 0 → ⊥) → n * 2 ^ b < 2 ^ 64 → b < 64
raised_few n b some h = ⊎_elim
    (λ (few : b < 64). few)
    (λ (many : 64 ≤ b).
    let wide : 2 ^ 64 ≤ 2 ^ b = pow-le-pow_right (lit< tt) many in
    let more : 1 * 2 ^ b ≤ n * 2 ^ b = mul-le-mul_right (2 ^ b) (pos n some) in
    absurd (omega (arith, h, wide, more)))
    (cases_lt b 64)
  where
    pos : (n : ℕ) → (n ≡ 0 → ⊥) → 1 ≤ n
    pos zero h = absurd (h refl)
    pos (suc n) h = omega arith

pub none_left : (dict : List Entry) (direction : Direction) (xs : List Mapped) → length xs < 1 → number_of_bits (bits_of_entries dict direction xs) ≡ 0
unfolding number_of_bits
none_left dict direction [] h = refl
none_left dict direction (x ∷ xs) h = absurd (omega (arith, h))

-- the number of all entries' bits, as the first's and the rest's
pub sum_is : (dict : List Entry) (direction : Direction) (xs : List Mapped) (value rest raised : ℕ) → 1 ≤ length xs
    → value ≡ number_of_bits (bits_of_number (get_or xs 0 none).bits (mapped_number dict direction (get_or xs 0 none)))
    → rest ≡ number_of_bits (bits_of_entries dict direction (rest_of xs)) → raised ≡ rest * 2 ^ (get_or xs 0 none).bits
    → value + raised < 2 ^ total_bits xs
sum_is dict direction xs value rest raised h v r e =
    rw (v, e, r, ← rest_payload dict direction xs h) (payload_small dict direction xs)

pub sum_fits : (n t : ℕ) → n < 2 ^ t → t ≤ 64 → n < 2 ^ 64
sum_fits n t h le = let wide : 2 ^ t ≤ 2 ^ 64 = pow-le-pow_right (lit< tt) le in omega (arith, h, wide)
