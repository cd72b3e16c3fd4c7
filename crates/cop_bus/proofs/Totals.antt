use Rattle.std.proofs.Common.{◌≡◌, ℕ, ◌+◌, ◌≤◌, ◌<◌, ◌⊎◌, inl, inr, List, [], ◌∷◌, ◌++◌, length, get_or, refl, sym, ◌∙◌, ap, subst, arith, suc, zero, Bool, true, false, cond}
use Rattle.std.specs.Prelude.{Contains, AllPairs, sum_by, filter}
use Rattle.std.specs.List.{AllByRecursion as Each}
use Rattle.std.proofs.lemmas.List.Elements.{recursion_from_All, All-from_recursion, All-contains}
use Rattle.std.proofs.lemmas.List.Sums.{sum_by-cons}
use Rattle.std.proofs.lemmas.List.Kept.{AllPairs-cons}
use Rattle.std.proofs.lemmas.Bool.{cases_lt}

-- the sum of f over a list
abbrev pub total : {X : Type 0} → (X → ℕ) → List X → ℕ
total f [] = 0
total f (x ∷ xs) = f x + total f xs

pub total-sum_by : {X : Type 0} (f : X → ℕ) (xs : List X) → sum_by f xs ≡ total f xs
total-sum_by f [] = refl
total-sum_by f (x ∷ xs) = sum_by-cons f x xs ∙ ap (λ n. f x + n) (total-sum_by f xs)

pub total-append : {X : Type 0} (f : X → ℕ) (xs ys : List X) → total f (xs ++ ys) ≡ total f xs + total f ys
total-append f [] ys = omega arith
total-append f (x ∷ xs) ys = let ih = total-append f xs ys in omega arith

pub total-le : {X : Type 0} (f g : X → ℕ) (xs : List X) → Each (λ x. f x ≤ g x) xs → total f xs ≤ total g xs
total-le f g [] h = omega arith
total-le f g (x ∷ xs) h = let ih = total-le f g xs h.1 in omega arith

pub total-add : {X : Type 0} (f g : X → ℕ) (xs : List X) → total (λ x. f x + g x) xs ≡ total f xs + total g xs
total-add f g [] = omega arith
total-add f g (x ∷ xs) = let ih = total-add f g xs in omega arith

pub Contains-head : {X : Type 0} (x : X) (xs : List X) → Contains (x ∷ xs) x
Contains-head x xs = (0, omega arith, refl)

pub Contains-tail : {X : Type 0} (y x : X) (xs : List X) → Contains xs x → Contains (y ∷ xs) x
Contains-tail y x xs h = (suc h.0, omega arith, h.2)

-- where one sum is greater, some element has more
pub total-more : {X : Type 0} (f g : X → ℕ) (xs : List X) → total g xs < total f xs → (x : X) × Contains xs x × (g x < f x)
total-more f g [] h = absurd (omega arith)
total-more f g (x ∷ xs) h = elim (cases_lt (g x) (f x)) [ inl l ↦ (x, Contains-head x xs, l) | inr l ↦ (let w = total-more f g xs (omega arith) in (w.0, Contains-tail x w.0 xs w.1, w.2)) ]

-- each later one is in the relation with each earlier one
abbrev pub Pairs : {X : Type 0} → (X → X → Type 0) → List X → Type 0
Pairs R [] = Unit {0}
Pairs R (x ∷ xs) = Each (R x) xs × Pairs R xs

pub Pairs-from_AllPairs : {X : Type 0} (R : X → X → Type 0) (xs : List X) → AllPairs R xs → Pairs R xs
Pairs-from_AllPairs R [] h = tt
Pairs-from_AllPairs R (x ∷ xs) h = (
  recursion_from_All (R x) xs (λ k d l. h 0 (suc k) d (omega arith) (omega arith)),
  Pairs-from_AllPairs R xs (λ i j d l k. h (suc i) (suc j) d (omega arith) (omega arith)),
)

pub Each-map : {X : Type 0} (P Q : X → Type 0) (xs : List X) → ((x : X) → P x → Q x) → Each P xs → Each Q xs
Each-map P Q [] f h = tt
Each-map P Q (x ∷ xs) f h = (f x h.0, Each-map P Q xs f h.1)

pub Each-map2 : {X : Type 0} (P Q R : X → Type 0) (xs : List X) → ((x : X) → P x → Q x → R x) → Each P xs → Each Q xs → Each R xs
Each-map2 P Q R [] f h k = tt
Each-map2 P Q R (x ∷ xs) f h k = (f x h.0 k.0, Each-map2 P Q R xs f h.1 k.1)

-- a fact of each element that is known of it only as an element
pub Each-from_Contains : {X : Type 0} (P : X → Type 0) (xs : List X) → ((x : X) → Contains xs x → P x) → Each P xs
Each-from_Contains P [] h = tt
Each-from_Contains P (x ∷ xs) h = (h x (Contains-head x xs), Each-from_Contains P xs (λ y m. h y (Contains-tail x y xs m)))

pub Each-append_left : {X : Type 0} (P : X → Type 0) (xs ys : List X) → Each P (xs ++ ys) → Each P xs
Each-append_left P [] ys h = tt
Each-append_left P (x ∷ xs) ys h = (h.0, Each-append_left P xs ys h.1)

pub Each-append_right : {X : Type 0} (P : X → Type 0) (xs ys : List X) → Each P (xs ++ ys) → Each P ys
Each-append_right P [] ys h = h
Each-append_right P (x ∷ xs) ys h = Each-append_right P xs ys h.1

pub Pairs-append_left : {X : Type 0} (R : X → X → Type 0) (xs ys : List X) → Pairs R (xs ++ ys) → Pairs R xs
Pairs-append_left R [] ys h = tt
Pairs-append_left R (x ∷ xs) ys h = (Each-append_left (R x) xs ys h.0, Pairs-append_left R xs ys h.1)

pub Pairs-append_right : {X : Type 0} (R : X → X → Type 0) (xs ys : List X) → Pairs R (xs ++ ys) → Pairs R ys
Pairs-append_right R [] ys h = h
Pairs-append_right R (x ∷ xs) ys h = Pairs-append_right R xs ys h.1

-- each of the first part with each of the second
pub Pairs-across : {X : Type 0} (R : X → X → Type 0) (xs ys : List X) (y : X) → Contains ys y → Pairs R (xs ++ ys) → Each (λ x. R x y) xs
Pairs-across R [] ys y m h = tt
Pairs-across R (x ∷ xs) ys y m h =
    (All-contains (R x) ys y (All-from_recursion (R x) ys (Each-append_right (R x) xs ys h.0)) m, Pairs-across R xs ys y m h.1)

-- two elements that a relation keeps apart, told apart by a fact
pub Pairs-of_two : {X : Type 0} (R : X → X → Type 0) (xs : List X) (x y : X) → Pairs R xs → Contains xs x → Contains xs y → (x ≡ y) ⊎ (R x y ⊎ R y x)
Pairs-of_two R [] x y h m n = absurd (omega (arith, m.1))
Pairs-of_two R (z ∷ zs) x y h (zero, l, e) (zero, k, d) = inl (sym e ∙ d)
Pairs-of_two R (z ∷ zs) x y h (zero, l, e) (suc j, k, d) = inr (inl (subst (λ a. R a y) e (All-contains (R z) zs y (All-from_recursion (R z) zs h.0) (j, omega (arith, k), d))))
Pairs-of_two R (z ∷ zs) x y h (suc i, l, e) (zero, k, d) = inr (inr (subst (λ a. R a x) d (All-contains (R z) zs x (All-from_recursion (R z) zs h.0) (i, omega (arith, l), e))))
Pairs-of_two R (z ∷ zs) x y h (suc i, l, e) (suc j, k, d) = Pairs-of_two R zs x y h.1 (i, omega (arith, l), e) (j, omega (arith, k), d)

-- where no sum's part falls and one grows, the sum grows
pub total-grows : {X : Type 0} (f g : X → ℕ) (xs : List X) (k : ℕ) (d : X) → k < length xs → ((x : X) → f x ≤ g x) → suc (f (get_or xs k d)) ≤ g (get_or xs k d) → suc (total f xs) ≤ total g xs
total-grows f g [] k d l h s = absurd (omega arith)
total-grows f g (x ∷ xs) zero d l h s = let r = total-le f g xs (Each-from_Contains (λ y. f y ≤ g y) xs (λ y m. h y)) in omega arith
total-grows f g (x ∷ xs) (suc k) d l h s = let r : suc (total f xs) ≤ total g xs = total-grows f g xs k d (omega arith) h s in let a = h x in omega arith

-- an element that passes counts in the sum over what passes
pub total-filter-at : {X : Type 0} (f : X → ℕ) (p : X → Bool) (xs : List X) (k : ℕ) (d : X) → k < length xs → p (get_or xs k d) ≡ true → f (get_or xs k d) ≤ total f (filter p xs)
total-filter-at f p [] k d l t = absurd (omega arith)
total-filter-at f p (x ∷ xs) zero d l t = subst (λ b. f x ≤ total f (cond b (x ∷ filter p xs) (filter p xs))) (sym t) (omega arith)
total-filter-at f p (x ∷ xs) (suc k) d l t = go (p x) (total-filter-at f p xs k d (omega arith) t)
  where
    go : (b : Bool) → f (get_or xs k d) ≤ total f (filter p xs) → f (get_or xs k d) ≤ total f (cond b (x ∷ filter p xs) (filter p xs))
    go true r = omega arith
    go false r = r

-- sums over two lists in either order
pub total-swap : {X Y : Type 0} (f : X → Y → ℕ) (xs : List X) (ys : List Y) → total (λ x. total (f x) ys) xs ≡ total (λ y. total (λ x. f x y) xs) ys
total-swap f [] ys = sym (total-zero ys)
  where
    total-zero : {Y : Type 0} (ys : List Y) → total (λ y. 0) ys ≡ 0
    total-zero [] = refl
    total-zero (y ∷ ys) = let r = total-zero ys in omega arith
total-swap f (x ∷ xs) ys = let r = total-swap f xs ys in let a = total-add (f x) (λ y. total (λ x. f x y) xs) ys in omega arith

-- at most one part of a sum grows, and that by at most b
pub total-one : {X : Type 0} (f g : X → ℕ) (P : X → Type 0) (b : ℕ) (xs : List X) → Each (λ x. (g x ≤ f x) ⊎ (P x × (g x ≤ f x + b))) xs → Pairs (λ x y. P x → P y → ⊥) xs → total g xs ≤ total f xs + b
total-one f g P b [] h k = omega arith
total-one f g P b (x ∷ xs) h k = elim h.0 [
  | inl l ↦ (let r = total-one f g P b xs h.1 k.1 in omega arith)
  | inr w ↦ (let r = total-le g f xs (Each-map2 (λ y. (g y ≤ f y) ⊎ (P y × (g y ≤ f y + b))) (λ y. P x → P y → ⊥) (λ y. g y ≤ f y) xs (λ y c n. elim c [ inl l ↦ l | inr v ↦ absurd (n w.0 v.0) ]) h.1 k.0) in omega (arith, w.1))
]

pub Pairs-map : {X : Type 0} (R S : X → X → Type 0) (xs : List X) → ((x y : X) → R x y → S x y) → Pairs R xs → Pairs S xs
Pairs-map R S [] f h = tt
Pairs-map R S (x ∷ xs) f h = (Each-map (R x) (S x) xs (f x) h.0, Pairs-map R S xs f h.1)

-- what passes and what does not make the whole
pub total-split : {X : Type 0} (p : X → Bool) (f : X → ℕ) (xs : List X) → total f xs ≡ total (λ x. cond (p x) (f x) 0) xs + total (λ x. cond (p x) 0 (f x)) xs
total-split p f [] = omega arith
total-split p f (x ∷ xs) = go (p x) (total-split p f xs)
  where
    go : (b : Bool) → total f xs ≡ total (λ x. cond (p x) (f x) 0) xs + total (λ x. cond (p x) 0 (f x)) xs →
        f x + total f xs ≡ (cond b (f x) 0 + total (λ x. cond (p x) (f x) 0) xs) + (cond b 0 (f x) + total (λ x. cond (p x) 0 (f x)) xs)
    go true r = omega arith
    go false r = omega arith

pub AllPairs-from_Pairs : {X : Type 0} (R : X → X → Type 0) (xs : List X) → Pairs R xs → AllPairs R xs
AllPairs-from_Pairs R [] h = λ i j d l k. absurd (omega arith)
AllPairs-from_Pairs R (x ∷ xs) h = AllPairs-cons R x xs (All-from_recursion (R x) xs h.0) (AllPairs-from_Pairs R xs h.1)

-- what is kept passes
pub Each-filter : {X : Type 0} (p : X → Bool) (xs : List X) → Each (λ x. p x ≡ true) (filter p xs)
Each-filter p [] = tt
Each-filter p (x ∷ xs) = go (p x) refl (Each-filter p xs)
  where
    go : (b : Bool) → p x ≡ b → Each (λ x. p x ≡ true) (filter p xs) → Each (λ x. p x ≡ true) (cond b (x ∷ filter p xs) (filter p xs))
    go true e r = (e, r)
    go false e r = r
