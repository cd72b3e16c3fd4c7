-- What holds of the elements of a list of which each is changed.
use Rattle.std.proofs.Common.{◌≡◌, ◌<◌, List, [], ◌∷◌, map, length, get_or, sym, ap, subst, ◌∙◌, arith, All, AllPairs, Any}
use Rattle.std.proofs.lemmas.List.{get_or-map, length-map}

module _ {X Y : Type 0} (f : X → Y) where
  pub pairs_map : (R : Y → Y → Type 0) (xs : List X) → AllPairs (λ x y. R (f x) (f y)) xs → AllPairs R (map f xs)
  pairs_map R [] h = λ i j e lt inside. absurd (omega arith)
  pairs_map R (x ∷ xs) h = λ i j e lt inside.
      let long : length (map f (x ∷ xs)) ≡ length (x ∷ xs) = length-map (x ∷ xs) f in
      let jn : j < length (x ∷ xs) = omega (arith, long, inside) in
      let im : i < length (x ∷ xs) = omega (arith, jn, lt) in
      subst (λ a. R a (get_or (map f (x ∷ xs)) j e)) (sym (get_or-map f (x ∷ xs) i x e im))
      (subst (λ b. R (f (get_or (x ∷ xs) i x)) b) (sym (get_or-map f (x ∷ xs) j x e jn)) (h i j x lt jn))

  pub any_map : (P : Y → Type 0) (xs : List X) → Any (λ x. P (f x)) xs → Any P (map f xs)
  any_map P xs h =
      let long : length (map f xs) ≡ length xs = length-map xs f in
      let lt = h.2 in
      (h.0, f h.1, omega (arith, long, lt), get_or-map f xs h.0 h.1 (f h.1) lt ∙ ap f h.3, h.4)

  -- what holds of each that is changed holds so of each before
  pub all_unmap : (P : Y → Type 0) (xs : List X) → All P (map f xs) → All (λ x. P (f x)) xs
  all_unmap P xs h = λ i d lt.
      let long : length (map f xs) ≡ length xs = length-map xs f in
      subst P (get_or-map f xs i d (f d) lt) (h i (f d) (omega (arith, long, lt)))
