-- A list of which a filter keeps all.
use Rattle.std.proofs.Common.{◌≡◌, ℕ, Bool, true, List, [], ◌∷◌, filter, refl, ap, rules}
use Rattle.std.specs.List.{list_all}

pub kept_all : (p : ℕ → Bool) (xs : List ℕ) → list_all p xs ≡ true → filter p xs ≡ xs
kept_all p [] h = refl
kept_all p (x ∷ xs) h =
    let first : p x ≡ true = search (rules, h) in
    let others : list_all p xs ≡ true = search (rules, h) in
    rw first (ap (λ (a : List ℕ). x ∷ a) (kept_all p xs others))
