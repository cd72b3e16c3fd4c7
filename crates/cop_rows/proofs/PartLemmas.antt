-- The parts of a text.
use Rattle.std.proofs.Common.{◌≡◌, ℕ, zero, suc, ◌+◌, ◌<◌, Bool, true, false, List, [], ◌∷◌, length, take, drop, get_or, refl, sym, ◌∙◌, arith, add-one, ◌==◌, if◌then◌else◌, Some, None}
use Rattle.std.specs.List.{position, position_from}
use Rattle.std.proofs.lemmas.Iterator.Adapters.{position_from-zero}
use Rattle.std.proofs.lemmas.List.Quantifiers.{position-Some}
use Rattle.cop_rows.specs.Fields.{parts, with_first}

none_step : (t : Bool) (c i b : ℕ) (bs : List ℕ) → (position_from (λ b. b == c) (i + 1) bs ≡ None → parts c bs ≡ bs ∷ [])
    → (if t then Some i else position_from (λ b. b == c) (i + 1) bs) ≡ None
    → (if t then [] ∷ parts c bs else with_first b (parts c bs)) ≡ (b ∷ bs) ∷ []
none_step true c i b bs ih h = cc
none_step false c i b bs ih h = rw (ih h) refl

none_from : (c i : ℕ) (text : List ℕ) → position_from (λ b. b == c) i text ≡ None → parts c text ≡ text ∷ []
none_from c i [] h = refl
none_from c i (b ∷ bs) h = none_step (b == c) c i b bs (λ e. none_from c (i + 1) bs e) h

-- a text without the byte is one part
pub parts_whole : (c : ℕ) (text : List ℕ) → position (λ b. b == c) text ≡ None → parts c text ≡ text ∷ []
parts_whole c text h = none_from c 0 text (sym (position_from-zero (λ b. b == c) text) ∙ h)

some_at : (c : ℕ) (text : List ℕ) (k : ℕ) → k < length text → (get_or text k 0 == c) ≡ true → ((j : ℕ) → j < k → (get_or text j 0 == c) ≡ false)
    → parts c text ≡ take k text ∷ parts c (drop (suc k) text)
some_at c [] k lt is before = absurd (omega arith)
some_at c (b ∷ bs) zero lt is before = let e : (b == c) ≡ true = is in rw e refl
some_at c (b ∷ bs) (suc k) lt is before =
    let e : (b == c) ≡ false = before 0 (omega arith) in
    rw (e, some_at c bs k (omega arith) is (λ j below. before (suc j) (omega arith))) refl

-- the first such byte ends the first part
pub parts_cut : (c : ℕ) (text : List ℕ) (k : ℕ) → position (λ b. b == c) text ≡ Some k → (k < length text) × (parts c text ≡ take k text ∷ parts c (drop (k + 1) text))
parts_cut c text k h =
    let p = position-Some (λ b. b == c) text k 0 h in
    (p.0, rw (add-one k) (some_at c text k p.0 p.1 p.2))

some_step : (t : Bool) (b : ℕ) (ps : List (List ℕ))
    → (first : List ℕ) × (more : List (List ℕ)) × ((if t then [] ∷ ps else with_first b ps) ≡ first ∷ more)
some_step true b ps = ([], ps, refl)
some_step false b [] = (b ∷ [], [], refl)
some_step false b (p ∷ ps) = (b ∷ p, ps, refl)

-- there is one part at least
pub parts_some : (c : ℕ) (text : List ℕ) → (first : List ℕ) × (more : List (List ℕ)) × (parts c text ≡ first ∷ more)
parts_some c [] = ([], [], refl)
parts_some c (b ∷ bs) = some_step (b == c) b (parts c bs)
