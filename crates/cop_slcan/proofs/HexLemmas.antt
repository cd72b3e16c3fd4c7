-- Hexadecimal digits, byte by byte.
use Rattle.std.proofs.Common.{◌≡◌, ℕ, ◌+◌, ◌/◌, ◌%◌, ◌<◌, List, [], ◌∷◌, ◌++◌, length, take, get_or, slice_index, refl, sym, ◌∙◌, ap, append_assoc}
use Rattle.std.proofs.lemmas.List.{take_more}
use Rattle.hex.specs.Hex.{upper_digits, encode_with, encode_upper}

-- one byte more has two digits more
pub digits_more : (bytes : List ℕ) (b : ℕ) → encode_upper (bytes ++ b ∷ []) ≡ encode_upper bytes ++ (slice_index upper_digits (b / 16) ∷ slice_index upper_digits (b % 16) ∷ [])
unfolding encode_with
digits_more [] b = refl
digits_more (x ∷ bytes) b = ap (λ ds. slice_index upper_digits (x / 16) ∷ slice_index upper_digits (x % 16) ∷ ds) (digits_more bytes b)

pub no_digits : encode_upper [] ≡ []
unfolding encode_with
no_digits = refl

-- a text that ends with the digits of the bytes so far, and then with those of one more
pub digits_on : (head line bytes : List ℕ) (i a b x : ℕ) → i < length bytes → x ≡ get_or bytes i 0 → a ≡ slice_index upper_digits (x / 16) → b ≡ slice_index upper_digits (x % 16)
    → line ≡ head ++ encode_upper (take i bytes) → (line ++ a ∷ []) ++ b ∷ [] ≡ head ++ encode_upper (take (i + 1) bytes)
digits_on head line bytes i a b x low is ea eb h =
    append_assoc line (a ∷ []) (b ∷ [])
    ∙ ap (λ xs. xs ++ (a ∷ b ∷ [])) h
    ∙ append_assoc head (encode_upper (take i bytes)) (a ∷ b ∷ [])
    ∙ ap (λ v. head ++ (encode_upper (take i bytes) ++ (v ∷ b ∷ []))) ea
    ∙ ap (λ v. head ++ (encode_upper (take i bytes) ++ (slice_index upper_digits (x / 16) ∷ v ∷ []))) eb
    ∙ ap (λ v. head ++ v) (sym (digits_more (take i bytes) x) ∙ ap (λ v. encode_upper (take i bytes ++ v ∷ [])) is ∙ ap encode_upper (sym (take_more bytes i 0 low)))
