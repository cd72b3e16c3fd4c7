-- The digits of a number's bytes.
use Rattle.std.proofs.Common.{◌≡◌, ◌<◌, ℕ, zero, suc, ◌-◌, ◌*◌, ◌/◌, ◌%◌, ◌^◌, List, [], ◌∷◌, ◌++◌, reverse, refl, sym, ap, ◌∙◌, arith, append_assoc}
use Rattle.std.proofs.Common.{pow-suc}
use Rattle.std.proofs.Math.Nat.{div-div-eq-div-mul}
use Rattle.std.specs.List.{flat_map}
use Rattle.std.specs.Int.{bytes_low_first, byte_at}
use Rattle.std.proofs.lemmas.Grind.{flat_map-append}
use Rattle.std.proofs.lemmas.List.{reverse-append}
use Rattle.cop_dcf.specs.Dcf.{digit, digits_of}

byte_up : (i n : ℕ) → byte_at (suc i) n ≡ byte_at i (n / 256)
byte_up zero n = refl
byte_up (suc i) n =
    let more : 256 ^ suc (suc i) ≡ 256 * 256 ^ suc i = pow_up (suc i) in
    rw more (ap (λ k. k % 256) (sym (div-div-eq-div-mul n 256 (256 ^ suc i))))
  where
    pow_up : (k : ℕ) → 256 ^ suc k ≡ 256 * 256 ^ k
    pow_up k = omega (arith, pow-suc 256 k)

bytes_up : (i width n : ℕ) → bytes_low_first (suc i) width n ≡ bytes_low_first i width (n / 256)
bytes_up i zero n = refl
bytes_up i (suc width) n = rw (byte_up i n) (ap (λ bytes. byte_at i (n / 256) ∷ bytes) (bytes_up (suc i) width n))

-- the digits of one byte more
digits_more : (width n : ℕ) → flat_map digits_of (reverse (bytes_low_first 0 (suc width) n)) ≡ flat_map digits_of (reverse (bytes_low_first 0 width (n / 256))) ++ digits_of (n % 256)
digits_more width n =
    ap (λ bytes. flat_map digits_of (reverse (n % 256 ∷ bytes))) (bytes_up 0 width n)
    ∙ ap (flat_map digits_of) (reverse-append (n % 256 ∷ []) (bytes_low_first 0 width (n / 256)))
    ∙ flat_map-append digits_of (reverse (bytes_low_first 0 width (n / 256))) (n % 256 ∷ [])

pub byte_more : (before first second last : List ℕ) (bytes n high low : ℕ) → 0 < bytes → first ≡ before ++ flat_map digits_of (reverse (bytes_low_first 0 (bytes - 1) (n / 256)))
    → second ≡ first ++ high ∷ [] → last ≡ second ++ low ∷ [] → high ≡ digit (n % 256 / 16) → low ≡ digit (n % 256 % 16)
    → last ≡ before ++ flat_map digits_of (reverse (bytes_low_first 0 bytes n))
byte_more before first second last zero n high low some a b c d e = absurd (omega arith)
byte_more before first second last (suc width) n high low some a b c d e =
    let less : suc width - 1 ≡ width = omega arith in
    c ∙ ap (λ xs. xs ++ low ∷ []) b ∙ append_assoc first (high ∷ []) (low ∷ [])
    ∙ ap (λ xs. xs ++ high ∷ low ∷ []) (a ∙ ap (λ w. before ++ flat_map digits_of (reverse (bytes_low_first 0 w (n / 256)))) less)
    ∙ append_assoc before (flat_map digits_of (reverse (bytes_low_first 0 width (n / 256)))) (high ∷ low ∷ [])
    ∙ ap (λ h. before ++ (flat_map digits_of (reverse (bytes_low_first 0 width (n / 256))) ++ h ∷ low ∷ [])) d
    ∙ ap (λ l. before ++ (flat_map digits_of (reverse (bytes_low_first 0 width (n / 256))) ++ digit (n % 256 / 16) ∷ l ∷ [])) e
    ∙ ap (λ xs. before ++ xs) (sym (digits_more width n))
