-- What is said of an object, by its place.
use Rattle.std.proofs.Common.{◌≡◌, ◌<◌, ℕ, zero, suc, List, [], ◌∷◌, map, length, get_or, arith}
use Rattle.cop_eds.specs.declared.description.Object.{Object}
use Rattle.cop_eds.specs.Objects.{objects_of}
use Rattle.cop_dict.specs.declared.blueprint.Keys.{Keys}
use Rattle.cop_dict.specs.Keys.{said, keys_of, AreKeys}

same_at : {A B C : Type 0} (f : A → C) (g : B → C) (xs : List A) (ys : List B) (i : ℕ) (a : A) (b : B) → map f xs ≡ map g ys → i < length ys → f (get_or xs i a) ≡ g (get_or ys i b)
same_at f g xs [] i a b h lt = absurd (omega (arith, lt))
same_at f g [] (y ∷ ys) i a b h lt = cc
same_at f g (x ∷ xs) (y ∷ ys) zero a b h lt = let e : f x ≡ g y = cc in e
same_at f g (x ∷ xs) (y ∷ ys) (suc i) a b h lt = let later : map f xs ≡ map g ys = cc in same_at f g xs ys i a b later (omega (arith, lt))

pub keys_at : (text : List ℕ) (keys : List Keys) (objects : List Object) (i : ℕ) (k : Keys) (o : Object) → AreKeys text keys → objects ≡ objects_of text → i < length objects
    → said (get_or keys i k) ≡ keys_of text (get_or objects i o)
keys_at text keys objects i k o all same lt = same_at said (keys_of text) keys objects i k o (rw same all) lt
