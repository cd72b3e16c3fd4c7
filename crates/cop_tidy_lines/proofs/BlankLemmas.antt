-- What stands before a comment behind a value.
use Rattle.std.proofs.Common.{◌≡◌, ℕ, zero, suc, ◌<◌, Bool, true, false, List, [], ◌∷◌, ◌++◌, length, take, drop, slice_index, refl, ap, arith}
use Rattle.cop_tidy_lines.specs.Blanks.{is_any_blank, begins_comment, before_comment}

-- nothing stands before a comment that begins at once
pub none_before : (after : Bool) (bs : List ℕ) → begins_comment after bs ≡ true → before_comment after bs ≡ []
none_before after [] h = refl
none_before after (b ∷ bs) h = rw h refl

-- a byte at which no comment begins stands before it
pub one_before : (after : Bool) (bs : List ℕ) (k : ℕ) → k < length bs → begins_comment after (drop k bs) ≡ false →
    take k bs ++ before_comment after (drop k bs) ≡ take (suc k) bs ++ before_comment (is_any_blank (slice_index bs k)) (drop (suc k) bs)
one_before after [] k below h = absurd (omega (arith, below))
one_before after (b ∷ bs) zero below h = rw h refl
one_before after (b ∷ bs) (suc k) below h = ap (λ (a : List ℕ). b ∷ a) (one_before after bs k (omega (arith, below)) h)
