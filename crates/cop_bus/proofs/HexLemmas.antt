-- Hexadecimal digits, byte by byte.
use Rattle.std.proofs.Common.{◌≡◌, ℕ, ◌+◌, ◌/◌, ◌%◌, ◌<◌, List, [], ◌∷◌, ◌++◌, length, take, get_or, slice_set, slice_index, refl, sym, ◌∙◌, ap, arith, append_assoc}
use Rattle.std.proofs.lemmas.List.{take_more, take_more_set, length-set}
use Rattle.hex.specs.Hex.{upper_digits, encode_with, encode_upper}

-- one byte more has two digits more
pub digits_more : (bytes : List ℕ) (b : ℕ) → encode_upper (bytes ++ b ∷ []) ≡ encode_upper bytes ++ (slice_index upper_digits (b / 16) ∷ slice_index upper_digits (b % 16) ∷ [])
unfolding encode_with
digits_more [] b = refl
digits_more (x ∷ bytes) b = ap (λ ds. slice_index upper_digits (x / 16) ∷ slice_index upper_digits (x % 16) ∷ ds) (digits_more bytes b)

pub two_written : (text : List ℕ) (n a b : ℕ) → n + 1 < length text → take (n + 1 + 1) (slice_set (slice_set text n a) (n + 1) b) ≡ take n text ++ (a ∷ b ∷ [])
two_written text n a b low =
    take_more_set (slice_set text n a) (n + 1) b (let l = length-set text n a in omega (arith, l, low))
    ∙ ap (λ xs. xs ++ b ∷ []) (take_more_set text n a (omega (arith, low)))
    ∙ append_assoc (take n text) (a ∷ []) (b ∷ [])

pub digits_one : (bytes text : List ℕ) (i a b x : ℕ) → i < length bytes → i + i + 1 < length text → x ≡ get_or bytes i 0 → a ≡ slice_index upper_digits (x / 16) → b ≡ slice_index upper_digits (x % 16) →
    take (i + i) text ≡ encode_upper (take i bytes) → take ((i + 1) + (i + 1)) (slice_set (slice_set text (i + i) a) (i + i + 1) b) ≡ encode_upper (take (i + 1) bytes)
digits_one bytes text i a b x low room is ea eb h =
    let n : (i + 1) + (i + 1) ≡ i + i + 1 + 1 = omega arith in
    ap (λ k. take k (slice_set (slice_set text (i + i) a) (i + i + 1) b)) n
    ∙ two_written text (i + i) a b room
    ∙ ap (λ xs. xs ++ (a ∷ b ∷ [])) h
    ∙ ap (λ v. encode_upper (take i bytes) ++ (v ∷ b ∷ [])) ea
    ∙ ap (λ v. encode_upper (take i bytes) ++ (slice_index upper_digits (x / 16) ∷ v ∷ [])) eb
    ∙ sym (digits_more (take i bytes) x)
    ∙ ap (λ v. encode_upper (take i bytes ++ v ∷ [])) is
    ∙ ap encode_upper (sym (take_more bytes i 0 low))
