-- The first line of a text.
use Rattle.std.proofs.Common.{◌≡◌, ℕ, suc, ◌+◌, ◌<◌, ◌≤◌, Bool, true, false, List, [], ◌∷◌, length, take, drop, refl, arith, ◌==◌}
use Rattle.std.specs.List.{position_or_len, before_first}
use Rattle.std.proofs.lemmas.List.{length-take-le}
use Rattle.std.proofs.lemmas.List.Sums.{prefix_len-le-length}
use Rattle.cop_eds.specs.Text.{cut}

-- what stands before the first one is as long as its place
pub length_before : (p : ℕ → Bool) (xs : List ℕ) → length (before_first p xs) ≡ position_or_len p xs
length_before p xs = length-take-le (position_or_len p xs) xs (prefix_len-le-length _ xs)

abbrev first_end : List ℕ → ℕ
first_end xs = position_or_len (λ b. b == 10) xs

ended_step : (b : ℕ) (bs : List ℕ) (t : Bool) → (b == 10) ≡ t → (first_end bs < length bs → cut bs ≡ take (first_end bs + 1) bs ∷ cut (drop (first_end bs + 1) bs))
    → first_end (b ∷ bs) < length (b ∷ bs) → cut (b ∷ bs) ≡ take (first_end (b ∷ bs) + 1) (b ∷ bs) ∷ cut (drop (first_end (b ∷ bs) + 1) (b ∷ bs))
ended_step b bs true e later h = rw e refl
ended_step b bs false e later h =
    let lt : 1 + first_end bs < length (b ∷ bs) = rw e at h in
    let more : 1 + first_end bs + 1 ≡ suc (first_end bs + 1) = omega arith in
    rw (e, more, later (omega arith)) refl

pub cut_ended : (xs : List ℕ) → position_or_len (λ b. b == 10) xs < length xs
    → cut xs ≡ take (position_or_len (λ b. b == 10) xs + 1) xs ∷ cut (drop (position_or_len (λ b. b == 10) xs + 1) xs)
cut_ended [] h = absurd (omega arith)
cut_ended (b ∷ bs) h = ended_step b bs (b == 10) refl (cut_ended bs) h

abbrev IsOpen : List ℕ → Type 0
IsOpen xs = cut xs ≡ take (first_end xs) xs ∷ cut (drop (first_end xs) xs)

open_step : (b : ℕ) (bs : List ℕ) (t : Bool) → (b == 10) ≡ t → (0 < length bs → length bs ≤ first_end bs → IsOpen bs)
    → length (b ∷ bs) ≤ first_end (b ∷ bs) → IsOpen (b ∷ bs)
open_step b bs true e later h = let le : length (b ∷ bs) ≤ 0 = rw e at h in absurd (omega arith)
open_step b [] false e later h = rw e refl
open_step b (c ∷ bs) false e later h =
    let le : length (b ∷ c ∷ bs) ≤ 1 + first_end (c ∷ bs) = rw e at h in
    let more : 1 + first_end (c ∷ bs) ≡ suc (first_end (c ∷ bs)) = omega arith in
    rw (e, more, later (omega arith) (omega arith)) refl

pub cut_open : (xs : List ℕ) → 0 < length xs → length xs ≤ position_or_len (λ b. b == 10) xs
    → cut xs ≡ take (position_or_len (λ b. b == 10) xs) xs ∷ cut (drop (position_or_len (λ b. b == 10) xs) xs)
cut_open [] pos h = absurd (omega arith)
cut_open (b ∷ bs) pos h = open_step b bs (b == 10) refl (cut_open bs) h
