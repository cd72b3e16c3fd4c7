-- What holds of each element of a list, element by element.
use Rattle.std.proofs.Common.{◌≡◌, ℕ, ◌+◌, ◌<◌, ◌≤◌, List, length, take, get_or, subst, All}
use Rattle.std.proofs.lemmas.List.{take_all}
use Rattle.std.proofs.lemmas.List.Elements.{All-more}

pub one_more : {X : Type 0} (P : X → Type 0) (xs ys : List X) (i : ℕ) (d : X) → ys ≡ xs → i < length ys → d ≡ get_or ys i d → All P (take i xs) → P d → All P (take (i + 1) xs)
one_more {X} P xs ys i d same below is so here =
    let L : List X → Type 0 = λ zs. i < length zs in
    let R : List X → Type 0 = λ zs. d ≡ get_or zs i d in
    All-more P xs i d (subst L same below) so (subst P (subst R same is) here)

pub all_taken : {X : Type 0} (P : X → Type 0) (xs ys : List X) (i : ℕ) → ys ≡ xs → length ys ≤ i → All P (take i xs) → All P xs
all_taken {X} P xs ys i same end so =
    let L : List X → Type 0 = λ zs. length zs ≤ i in
    rw (take_all i xs (subst L same end)) at so
