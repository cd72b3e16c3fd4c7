use Rattle.std.proofs.Common.{◌≡◌, ℕ, ◌+◌, ◌*◌, ◌/◌, ◌%◌, ◌≤◌, ◌<◌, ◌⊎◌, inl, inr, List, [], ◌∷◌, refl, arith, Bool, true, false, cond}
use Rattle.std.specs.Int.{div_ceil}
use Rattle.std.specs.List.{AllByRecursion as Each}
use Rattle.std.proofs.Math.Nat.{lt_of_mul-lt-mul_right}
use Rattle.std.proofs.lemmas.Bool.{cases_lt}
use Rattle.cop_bus.specs.Run.{Instance}
use Rattle.cop_bus.proofs.Totals.{total, Pairs, Each-map2}

-- how many elements pass
abbrev pub number : {X : Type 0} → (X → Bool) → List X → ℕ
number p xs = total (λ x. cond (p x) 1 0) xs

-- the sum over those that pass
abbrev pub among : {X : Type 0} → (X → Bool) → (X → ℕ) → List X → ℕ
among p f xs = total (λ x. cond (p x) (f x) 0) xs

-- a number of whole periods below a span and a period more
pub div_ceil-above : (c a t : ℕ) → 1 ≤ t → c * t < a + t → c ≤ div_ceil a t
div_ceil-above c a t pos h = elim (cases_lt 0 (a % t)) [
  | inl l ↦ (let e : c * t < (a / t + 2) * t = omega arith in let r = lt_of_mul-lt-mul_right t e in omega arith)
  | inr l ↦ (let e : c * t < (a / t + 1) * t = omega arith in let r = lt_of_mul-lt-mul_right t e in omega arith)
]

-- events a period apart, within a window: lo ≤ event + a < hi
pub number-window : (t hi a : ℕ) (p : Instance → Bool) (lo : ℕ) (ys : List Instance) →
    Each (λ y. p y ≡ true → (lo ≤ y.event + a) × (y.event + a < hi)) ys →
    Pairs (λ y z. p y ≡ true → p z ≡ true → y.event + t ≤ z.event) ys →
    (number p ys ≡ 0) ⊎ (lo + number p ys * t < hi + t)
number-window t hi a p lo [] h k = inl refl
number-window t hi a p lo (y ∷ ys) h k =
    go (p y) refl (number-window t hi a p lo ys h.1 k.1)
    (λ e. number-window t hi a p (y.event + t + a) ys
    (Each-map2 (λ z. p z ≡ true → (lo ≤ z.event + a) × (z.event + a < hi)) (λ z. p y ≡ true → p z ≡ true → y.event + t ≤ z.event) (λ z. p z ≡ true → (y.event + t + a ≤ z.event + a) × (z.event + a < hi)) ys
    (λ z u v w. let far = v e w in let old = (u w).1 in (omega arith, old)) h.1 k.0) k.1)
  where
    go : (b : Bool) → p y ≡ b → (number p ys ≡ 0) ⊎ (lo + number p ys * t < hi + t) →
        (p y ≡ true → (number p ys ≡ 0) ⊎ (y.event + t + a + number p ys * t < hi + t)) →
        (cond b 1 0 + number p ys ≡ 0) ⊎ (lo + (cond b 1 0 + number p ys) * t < hi + t)
    go false e r s = elim r [ inl z ↦ inl (omega arith) | inr w ↦ inr (let q : 0 + number p ys ≡ number p ys = omega arith in rw q w) ]
    go true e r s = let own = h.0 e in elim (s e) [ inl z ↦ inr (rw z (omega (arith, own))) | inr w ↦ inr (omega (arith, own)) ]

-- events a period apart from one another and from a last one: as many periods lie between the first and it
pub number-before : (t a last : ℕ) (p : Instance → Bool) (lo : ℕ) (ys : List Instance) →
    lo ≤ last + a →
    Each (λ y. p y ≡ true → (lo ≤ y.event + a) × (y.event + t ≤ last)) ys →
    Pairs (λ y z. p y ≡ true → p z ≡ true → y.event + t ≤ z.event) ys →
    lo + number p ys * t ≤ last + a
number-before t a last p lo [] b h k = omega arith
number-before t a last p lo (y ∷ ys) b h k =
    go (p y) refl (number-before t a last p lo ys b h.1 k.1)
    (λ e. number-before t a last p (y.event + t + a) ys (let own = h.0 e in omega (arith, own))
    (Each-map2 (λ z. p z ≡ true → (lo ≤ z.event + a) × (z.event + t ≤ last)) (λ z. p y ≡ true → p z ≡ true → y.event + t ≤ z.event) (λ z. p z ≡ true → (y.event + t + a ≤ z.event + a) × (z.event + t ≤ last)) ys
    (λ z u v w. let far = v e w in let old = (u w).1 in (omega arith, old)) h.1 k.0) k.1)
  where
    go : (b : Bool) → p y ≡ b → lo + number p ys * t ≤ last + a →
        (p y ≡ true → y.event + t + a + number p ys * t ≤ last + a) →
        lo + (cond b 1 0 + number p ys) * t ≤ last + a
    go false e r s = omega arith
    go true e r s = let own = h.0 e in let rest = s e in omega (arith, own, rest)

-- a sum over those that pass is at most their number times a bound
pub among-le : {X : Type 0} (p : X → Bool) (f : X → ℕ) (c : ℕ) (xs : List X) → Each (λ x. p x ≡ true → f x ≤ c) xs → among p f xs ≤ number p xs * c
among-le p f c [] h = omega arith
among-le p f c (x ∷ xs) h = go (p x) refl (among-le p f c xs h.1)
  where
    go : (b : Bool) → p x ≡ b → among p f xs ≤ number p xs * c → cond b (f x) 0 + among p f xs ≤ (cond b 1 0 + number p xs) * c
    go true e r = let own = h.0 e in omega arith
    go false e r = omega arith
