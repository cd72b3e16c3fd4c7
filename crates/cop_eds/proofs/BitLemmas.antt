-- Sets of numbers, of which each has a bit.
use Rattle.std.proofs.Common.{◌≡◌, ◌≢◌, ◌==◌, ◌||◌, ◌+◌, ◌*◌, ◌/◌, ◌%◌, ◌^◌, ◌<◌, ℕ, zero, suc, Bool, false, true, List, [], ◌∷◌, ◌++◌, length, get_or, set, refl, sym, ap, ◌∙◌, w64, bit_or, arith, ⊎_elim}
use Rattle.std.specs.Int.{bit_at}
use Rattle.std.proofs.lemmas.Bool.{cases_eq, eq-eqb, ne_eqb}
use Rattle.std.proofs.lemmas.List.{get_or-set_same, get_or-set_other, get_or_default}
use Rattle.std.proofs.lemmas.Nat.Bits.{bit_at_set_same, bit_at_set_other}
use Rattle.cop_eds.specs.Bits.{has}

-- where there is no word there are no bits
pub padded : (words : List ℕ) (k : ℕ) → get_or (words ++ 0 ∷ []) k 0 ≡ get_or words k 0
padded [] zero = refl
padded [] (suc k) = refl
padded (word ∷ words) zero = refl
padded (word ∷ words) (suc k) = padded words k

-- the bit of a number is set, and the others stay
pub bit_set : (old words : List ℕ) (n there other : ℕ) → ((k : ℕ) → get_or words k 0 ≡ get_or old k 0) → n / 64 < length words → there ≡ get_or words (n / 64) there
    → has (set words (n / 64) (bit_or there (1 * 2 ^ (n % 64) % 18446744073709551616))) other ≡ (other == n || has old other)
bit_set old words n there other same inside is = ⊎_elim in_word elsewhere (cases_eq (other / 64) (n / 64))
  where
    small : n % 64 < 64
    small = omega arith

    word : ℕ
    word = bit_or there (1 * 2 ^ (n % 64) % 18446744073709551616)

    apart_from : (other == n) ≡ false → bit_at (get_or (set words (n / 64) word) (other / 64) 0) (other % 64) ≡ bit_at (get_or old (other / 64) 0) (other % 64)
        → has (set words (n / 64) word) other ≡ (other == n || has old other)
    apart_from differs e = ap (λ b. b == 1) e ∙ sym (ap (λ b. b || has old other) differs)

    in_word : other / 64 ≡ n / 64 → has (set words (n / 64) word) other ≡ (other == n || has old other)
    in_word w =
        let here : get_or (set words (n / 64) word) (other / 64) 0 ≡ word = ap (λ k. get_or (set words (n / 64) word) k 0) w ∙ get_or-set_same words (n / 64) word 0 inside in
        let before : there ≡ get_or old (other / 64) 0 = is ∙ get_or_default words (n / 64) there 0 inside ∙ same (n / 64) ∙ ap (λ k. get_or old k 0) (sym w) in
        ⊎_elim
        (λ (b : other % 64 ≡ n % 64).
        let equal : other ≡ n = omega (arith, w, b) in
        let one : bit_at word (other % 64) ≡ 1 = ap (bit_at word) b ∙ bit_at_set_same w64 there (n % 64) small in
        eq-eqb _ 1 (ap (λ x. bit_at x (other % 64)) here ∙ one) ∙ sym (ap (λ t. t || has old other) (eq-eqb other n equal)))
        (λ (b : other % 64 ≢ n % 64).
        apart_from (ne_eqb other n (λ e. b (ap (λ k. k % 64) e)))
        (ap (λ x. bit_at x (other % 64)) here ∙ bit_at_set_other w64 there (n % 64) small (other % 64) b ∙ ap (λ x. bit_at x (other % 64)) before))
        (cases_eq (other % 64) (n % 64))

    elsewhere : other / 64 ≢ n / 64 → has (set words (n / 64) word) other ≡ (other == n || has old other)
    elsewhere w =
        apart_from (ne_eqb other n (λ e. w (ap (λ k. k / 64) e)))
        (ap (λ x. bit_at x (other % 64)) (get_or-set_other words (n / 64) (other / 64) word 0 w ∙ same (other / 64)))
