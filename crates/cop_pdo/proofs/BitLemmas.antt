-- Bits and the numbers that they are.
use Rattle.std.proofs.Common.{◌≡◌, ◌<◌, ◌+◌, ◌*◌, ◌/◌, ◌%◌, ◌^◌, ℕ, zero, suc, Bool, true, false, List, [], ◌∷◌, ◌++◌, take, drop, length, ◌==◌, if◌then◌else◌, refl, ap, sym, arith, ◌∙◌, add-one, lit<, mul_comm}
use Rattle.std.proofs.Math.Nat.{div-div-eq-div-mul, pow-succ', zero-mod, zero-div}
use Rattle.std.proofs.lemmas.Nat.{mod-pow-add}
use Rattle.std.specs.Int.{bytes_low_first, byte_at}
use Rattle.cop_pdo.specs.Bits.{bits_of_number, number_of_bits, bytes_of_bits}

-- a bit in front of a number
abbrev front : Bool → ℕ → ℕ
front bit n = (if bit then 1 else 0) + 2 * n

front_half : (bit : Bool) (n : ℕ) → front bit n / 2 ≡ n
front_half true n = omega arith
front_half false n = omega arith

front_low : (bit : Bool) (n : ℕ) → front bit n % 2 ≡ (if bit then 1 else 0)
front_low true n = omega arith
front_low false n = omega arith

-- the lowest bits of a number with one more in front
front_mod : (bit : Bool) (n k : ℕ) → front bit n % 2 ^ suc k ≡ front bit (n % 2 ^ k)
front_mod bit n k =
    let e : front bit n % 2 ^ (k + 1) ≡ (front bit n / 2 ^ 1 % 2 ^ k) * 2 ^ 1 + front bit n % 2 ^ 1 = mod-pow-add (front bit n) k 1 in
    rw (← add-one k, e, front_half bit n, front_low bit n) (swap (if bit then 1 else 0) (n % 2 ^ k)) where
      swap : (b m : ℕ) → m * 2 + b ≡ b + 2 * m
      swap b m = omega arith

front_div : (bit : Bool) (n k : ℕ) → front bit n / 2 ^ suc k ≡ n / 2 ^ k
front_div bit n k = rw (pow-succ' 2 k, ← div-div-eq-div-mul (front bit n) 2 (2 ^ k), front_half bit n) refl

bit_value : (n : ℕ) → (if n % 2 == 1 then 1 else 0) ≡ n % 2
bit_value n = by (n % 2) (omega arith) where
  by : (r : ℕ) → r < 2 → (if r == 1 then 1 else 0) ≡ r
  by zero h = refl
  by (suc zero) h = refl
  by (suc (suc r)) h = absurd (omega (arith, h))

-- the lowest bits of a number are its rest
pub number_lowest : (n value : ℕ) → number_of_bits (bits_of_number n value) ≡ value % 2 ^ n
unfolding number_of_bits bits_of_number
number_lowest zero value = omega arith
number_lowest (suc n) value =
    let e : value % 2 ^ (n + 1) ≡ (value / 2 ^ 1 % 2 ^ n) * 2 ^ 1 + value % 2 ^ 1 = mod-pow-add value n 1 in
    rw (bit_value value, number_lowest n (value / 2), ← add-one n, e) (omega arith)

pub length_lowest : (n value : ℕ) → length (bits_of_number n value) ≡ n
unfolding bits_of_number
length_lowest zero value = refl
length_lowest (suc n) value = ap (λ (k : ℕ). suc k) (length_lowest n (value / 2))

pub number_appended : (xs ys : List Bool) → number_of_bits (xs ++ ys) ≡ number_of_bits xs + 2 ^ length xs * number_of_bits ys
unfolding number_of_bits
number_appended [] ys = omega arith
number_appended (x ∷ xs) ys = rw (number_appended xs ys, pow-succ' 2 (length xs)) (spread (if x then 1 else 0) (number_of_bits xs) (2 ^ length xs) (number_of_bits ys)) where
  spread : (b n p m : ℕ) → b + 2 * (n + p * m) ≡ b + 2 * n + 2 * p * m
  spread b n p m = grind arith

pub number_taken : (n : ℕ) (bits : List Bool) → number_of_bits (take n bits) ≡ number_of_bits bits % 2 ^ n
unfolding number_of_bits
number_taken zero bits = omega arith
number_taken (suc n) [] = sym (zero-mod (2 ^ suc n))
number_taken (suc n) (bit ∷ bits) = rw (number_taken n bits) (sym (front_mod bit (number_of_bits bits) n))

pub number_dropped : (n : ℕ) (bits : List Bool) → number_of_bits (drop n bits) ≡ number_of_bits bits / 2 ^ n
unfolding number_of_bits
number_dropped zero bits = omega arith
number_dropped (suc n) [] = sym (zero-div (2 ^ suc n))
number_dropped (suc n) (bit ∷ bits) = number_dropped n bits ∙ sym (front_div bit (number_of_bits bits) n)

pub number_small : (bits : List Bool) → number_of_bits bits < 2 ^ length bits
unfolding number_of_bits
number_small [] = lit< tt
number_small (bit ∷ bits) = rw (pow-succ' 2 (length bits)) (small bit (number_of_bits bits) (2 ^ length bits) (number_small bits)) where
  small : (bit : Bool) (n p : ℕ) → n < p → (if bit then 1 else 0) + 2 * n < 2 * p
  small true n p h = omega arith
  small false n p h = omega arith

-- the lowest bytes of a number, the lowest first
abbrev pub low_bytes : ℕ → ℕ → List ℕ
low_bytes zero n = []
low_bytes (suc k) n = n % 256 ∷ low_bytes k (n / 256)

pub bytes_are_low : (k : ℕ) (bits : List Bool) → bytes_of_bits k bits ≡ low_bytes k (number_of_bits bits)
unfolding bytes_of_bits
bytes_are_low zero bits = refl
bytes_are_low (suc k) bits = rw (number_taken 8 bits, bytes_are_low k (drop 8 bits), number_dropped 8 bits) refl

byte_is : (i n : ℕ) → byte_at i n ≡ n / 256 ^ i % 256
byte_is zero n = omega arith
byte_is (suc i) n = refl

shifted : (i n : ℕ) → n / 256 ^ suc i ≡ n / 256 ^ i / 256
shifted i n = rw (pow-succ' 256 i, mul_comm 256 (256 ^ i)) (sym (div-div-eq-div-mul n (256 ^ i) 256))

pub std_bytes_are_low : (k i n : ℕ) → bytes_low_first i k n ≡ low_bytes k (n / 256 ^ i)
std_bytes_are_low zero i n = refl
std_bytes_are_low (suc k) i n =
    rw (byte_is i n, std_bytes_are_low k (suc i) n) (ap (λ (m : ℕ). n / 256 ^ i % 256 ∷ low_bytes k m) (shifted i n))

pub word_bytes : (bits : List Bool) → bytes_low_first 0 8 (number_of_bits bits) ≡ bytes_of_bits 8 bits
word_bytes bits = std_bytes_are_low 8 0 (number_of_bits bits) ∙ ap (low_bytes 8) (omega arith) ∙ sym (bytes_are_low 8 bits)
