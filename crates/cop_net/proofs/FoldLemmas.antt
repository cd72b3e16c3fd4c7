-- Loops that add one element after the other to what was found.
use Rattle.std.proofs.Common.{◌≡◌, ℕ, ◌+◌, ◌<◌, ◌≤◌, List, [], ◌∷◌, Result, Ok, Err, Option, Some, None, IfSome, length, drop, get_or, drop-cons, add-one, refl, sym, ap, ◌∙◌}
use Rattle.std.proofs.lemmas.List.{drop_all}
use Rattle.cop_net.specs.Steps.{folded}

pub goes_on : {A X F : Type 0} (next : A → X → Result A F) (xs : List X) (i : ℕ) (d : X) (found more : A) (total : Result A F)
    → i < length xs → next found (get_or xs i d) ≡ Ok more → folded next found (drop i xs) ≡ total → folded next more (drop (i + 1) xs) ≡ total
unfolding folded
goes_on next xs i d found more total lt h so_far =
    let cut : drop i xs ≡ get_or xs i d ∷ drop (i + 1) xs = rw add-one (drop-cons xs i d lt) in
    let one : folded next found (drop i xs) ≡ folded next more (drop (i + 1) xs) = rw (cut, h) refl in
    sym one ∙ so_far

pub stops : {A X F : Type 0} (next : A → X → Result A F) (xs : List X) (i : ℕ) (d : X) (found : A) (fault : F) (total : Result A F)
    → i < length xs → next found (get_or xs i d) ≡ Err fault → folded next found (drop i xs) ≡ total → total ≡ Err fault
unfolding folded
stops next xs i d found fault total lt h so_far =
    let cut : drop i xs ≡ get_or xs i d ∷ drop (i + 1) xs = rw add-one (drop-cons xs i d lt) in
    let one : folded next found (drop i xs) ≡ Err fault = rw (cut, h) refl in
    sym so_far ∙ one

pub fails : {A X F : Type 0} (next : A → X → Result A F) (xs : List X) (i : ℕ) (d : X) (found : A) (fault : Option F) (total : Result A F)
    → i < length xs → folded next found (drop i xs) ≡ total → IfSome fault (λ f. next found (get_or xs i d) ≡ Err f) → IfSome fault (λ f. total ≡ Err f)
fails next xs i d found None total lt so_far h = tt
fails next xs i d found (Some f) total lt so_far h = stops next xs i d found f total lt h so_far

pub ends : {A X F : Type 0} (next : A → X → Result A F) (xs : List X) (i : ℕ) (found : A) (total : Result A F)
    → length xs ≤ i → folded next found (drop i xs) ≡ total → total ≡ Ok found
unfolding folded
ends next xs i found total le so_far =
    let none : drop i xs ≡ [] = drop_all i xs le in
    let one : folded next found (drop i xs) ≡ Ok found = rw none refl in
    sym so_far ∙ one

-- the same of an element that is known as itself
pub goes_on_at : {A X F : Type 0} (next : A → X → Result A F) (xs : List X) (i : ℕ) (x : X) (found more : A) (total : Result A F)
    → i < length xs → x ≡ get_or xs i x → next found x ≡ Ok more → folded next found (drop i xs) ≡ total → folded next more (drop (i + 1) xs) ≡ total
goes_on_at next xs i x found more total lt here h so_far = goes_on next xs i x found more total lt (ap (next found) (sym here) ∙ h) so_far

pub fails_at : {A X F : Type 0} (next : A → X → Result A F) (xs : List X) (i : ℕ) (x : X) (found : A) (fault : Option F) (total : Result A F)
    → i < length xs → x ≡ get_or xs i x → folded next found (drop i xs) ≡ total → IfSome fault (λ f. next found x ≡ Err f) → IfSome fault (λ f. total ≡ Err f)
fails_at next xs i x found None total lt here so_far h = tt
fails_at next xs i x found (Some f) total lt here so_far h = stops next xs i x found f total lt (ap (next found) (sym here) ∙ h) so_far
