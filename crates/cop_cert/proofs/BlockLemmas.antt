-- Lines of numbers, made from the last to the first, and added some at a time.
use Rattle.std.proofs.Common.{◌≡◌, ℕ, ◌<◌, ◌≤◌, ◌^◌, List, [], ◌∷◌, ◌++◌, length, drop, map, decimal, sym, ◌∙◌, ap, arith, append_assoc, append-nil}
use Rattle.std.proofs.lemmas.Fmt.{length-decimal-le}
use Rattle.std.proofs.lemmas.Grind.{flat_map-append}
use Rattle.std.proofs.lemmas.List.{map-append, drop_all}
use Rattle.csv.specs.Machine.{line_feed}
use Rattle.cop_cert.specs.Format.{Fields, line, lines}
use Rattle.cop_cert.specs.Writer.{Adds, IsHead}

-- the lines of numbers in two parts
lines_of_both : (row : ℕ → Fields) (some more : List ℕ) → lines (map row (some ++ more)) ≡ lines (map row some) ++ lines (map row more)
lines_of_both row some more = rw (map-append row some more) (flat_map-append line (map row some) (map row more))

-- a line more before those that were made
pub line_before : (row : ℕ → Fields) (head front rest : List ℕ) (last : ℕ) (made after total : List ℕ)
    → IsHead head row → last < 2 ^ 64 → rest ≡ front ++ last ∷ [] → made ≡ ((head ++ decimal last) ++ line_feed ∷ []) ++ after
    → lines (map row rest) ++ after ≡ total → lines (map row front) ++ made ≡ total
line_before row head front rest last made after total is fits e h t =
    let one : lines (map row (last ∷ [])) ≡ (head ++ decimal last) ++ line_feed ∷ [] = append-nil (line (row last)) ∙ sym (is.makes last fits) in
    let both = lines_of_both row front (last ∷ []) in
    rw h (sym (append_assoc (lines (map row front)) ((head ++ decimal last) ++ line_feed ∷ []) after)
    ∙ (ap (λ some. (lines (map row front) ++ some) ++ after) (sym one) ∙ (ap (λ some. some ++ after) (sym both) ∙ (ap (λ some. lines (map row some) ++ after) (sym e) ∙ t))))

-- some numbers more in a text
pub lines_added : (row : ℕ → Fields) (old new some more rest total : List ℕ)
    → Adds old new (map row some) → rest ≡ some ++ more → old ++ lines (map row rest) ≡ total → new ++ lines (map row more) ≡ total
lines_added row old new some more rest total added e t =
    rw added.text (append_assoc old (lines (map row some)) (lines (map row more)) ∙ (ap (λ text. old ++ text) (sym (lines_of_both row some more)) ∙ (ap (λ some. old ++ lines (map row some)) (sym e) ∙ t)))

pub digits_are_few : (n : ℕ) → n < 2 ^ 64 → length (decimal n) ≤ 20
digits_are_few n h = length-decimal-le 20 n (omega arith) (omega arith) (omega (arith, h))

-- none of the block's bytes are behind its end
pub none_made : (text block : List ℕ) → length block ≡ 1792 → text ++ drop 1792 block ≡ text
none_made text block h = rw (drop_all 1792 block (omega (arith, h))) (append-nil text)
