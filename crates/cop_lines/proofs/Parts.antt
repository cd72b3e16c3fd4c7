-- Words and the bytes that they write.
use Rattle.std.proofs.Common.{◌≡◌, ◌∙◌, ℕ, ◌+◌, ◌-◌, ◌<◌, List, [], ◌∷◌, ◌++◌, suc, zero, length, take, refl, sym, ap, arith, append_assoc}
use Rattle.std.specs.Prelude.{Result, Ok, Err, slice_set}
use Rattle.std.proofs.lemmas.List.{take_more_set}
use Rattle.cop_table.specs.Reading.{◌>>=◌}
use Rattle.cop_lines.specs.Words.{word, after_word, after}
use Rattle.cop_lines.specs.Numbers.{byte_in, bytes_in}
use Rattle.cop_lines.specs.declared.numbers.Base.{Base}
use Rattle.cop_lines.specs.declared.faults.LineFault.{LineFault}

-- a word less
pub after_less : (n : ℕ) (text : List ℕ) → 0 < n → after n text ≡ after (n - 1) (after_word text)
unfolding after
after_less zero text l = absurd (omega arith)
after_less (suc n) text l = let e : suc n - 1 ≡ n = omega arith in rw e refl

-- bytes behind others
abbrev pub joined : List ℕ → Result (List ℕ) LineFault → Result (List ℕ) LineFault
joined front read = read >>= (λ bytes. Ok (front ++ bytes))

pub joined_more : (front : List ℕ) (b : ℕ) (read : Result (List ℕ) LineFault) → joined front (read >>= (λ bytes. Ok (b ∷ bytes))) ≡ joined (front ++ b ∷ []) read
joined_more front b (Ok bytes) = ap Ok (sym (append_assoc front (b ∷ []) bytes))
joined_more front b (Err fault) = refl

-- the first of some words is read
pub one_more : (base : Base) (n : ℕ) (text front : List ℕ) (b : ℕ) → byte_in base (word text) ≡ Ok b
    → joined front (bytes_in base (suc n) text) ≡ joined (front ++ b ∷ []) (bytes_in base n (after_word text))
one_more base n text front b e =
    ap (λ r. joined front (r >>= (λ b. bytes_in base n (after_word text) >>= (λ bytes. Ok (b ∷ bytes))))) e ∙ joined_more front b (bytes_in base n (after_word text))

-- what was read so far, and one byte more
pub goes_on : (base : Base) (n i : ℕ) (text rest behind body : List ℕ) (b : ℕ) → i < n → length body ≡ n → byte_in base (word rest) ≡ Ok b → behind ≡ after_word rest
    → joined (take i body) (bytes_in base (n - i) rest) ≡ bytes_in base n text
    → joined (take (i + 1) (slice_set body i b)) (bytes_in base (n - (i + 1)) behind) ≡ bytes_in base n text
goes_on base n i text rest behind body b l e read r before =
    let more : i < length body = omega arith in
    let cut : take (i + 1) (slice_set body i b) ≡ take i body ++ b ∷ [] = take_more_set body i b more in
    let one : n - i ≡ suc (n - (i + 1)) = omega arith in
    ap (λ t. joined t (bytes_in base (n - (i + 1)) behind)) cut
    ∙ (ap (λ t. joined (take i body ++ b ∷ []) (bytes_in base (n - (i + 1)) t)) r
    ∙ (sym (one_more base (n - (i + 1)) rest (take i body) b read)
    ∙ (ap (λ k. joined (take i body) (bytes_in base k rest)) (sym one) ∙ before)))
