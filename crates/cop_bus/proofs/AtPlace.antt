-- What stands at a place of a list.
use Rattle.std.proofs.Common.{◌≡◌, ◌≢◌, ℕ, zero, suc, ◌<◌, ◌⊎◌, inl, inr, List, [], ◌∷◌, length, slice_get, slice_set, Contains, refl, sym, ◌∙◌, ap, arith}
use Rattle.std.specs.Prelude.{Option, Some, All}
use Rattle.std.specs.Option.{option_map_or}
use Rattle.std.proofs.lemmas.Bool.{cases_order}
use Rattle.std.proofs.lemmas.List.Elements.{All-contains}
use Rattle.std.proofs.lemmas.Option.{slice_get_within, get_or_from_slice_get}
use Rattle.cop_rta.proofs.IdentifierLemmas.{two_apart}
use Rattle.cop_rta.specs.declared.streams.Stream.{Stream}
use Rattle.cop_rta.specs.Streams.{AreDistinct}

pub set-here : {A : Type 0} (xs : List A) (i : ℕ) (x : A) → i < length xs → slice_get (slice_set xs i x) i ≡ Some x
set-here [] i x l = absurd (omega arith)
set-here (y ∷ xs) zero x l = refl
set-here (y ∷ xs) (suc i) x l = set-here xs i x (omega arith)

pub set-other : {A : Type 0} (xs : List A) (i j : ℕ) (x : A) → j ≢ i → slice_get (slice_set xs i x) j ≡ slice_get xs j
set-other [] i j x n = refl
set-other (y ∷ xs) zero zero x n = absurd (n refl)
set-other (y ∷ xs) zero (suc j) x n = refl
set-other (y ∷ xs) (suc i) zero x n = refl
set-other (y ∷ xs) (suc i) (suc j) x n = set-other xs i j x (λ e. n (ap suc e))

pub there-is : {A : Type 0} (xs : List A) (i : ℕ) → i < length xs → (x : A) × (slice_get xs i ≡ Some x)
there-is [] i l = absurd (omega arith)
there-is (y ∷ xs) zero l = (y, refl)
there-is (y ∷ xs) (suc i) l = there-is xs i (omega arith)

pub some-one : {A : Type 0} (o : Option A) (x y : A) → o ≡ Some x → o ≡ Some y → x ≡ y
some-one o x y e f = go x y (sym e ∙ f)
  where
    go : {A : Type 0} (x y : A) → Some x ≡ Some y → x ≡ y
    go x y e = cc

pub contained : {A : Type 0} (xs : List A) (i : ℕ) (x : A) → slice_get xs i ≡ Some x → Contains xs x
contained xs i x e = (i, slice_get_within xs i x e, get_or_from_slice_get xs i x x e)

pub at-place : {A : Type 0} (P : A → Type 0) (xs : List A) (i : ℕ) (x : A) → slice_get xs i ≡ Some x → All P xs → P x
at-place P xs i x e h = All-contains P xs x h (contained xs i x e)

-- two places of one identifier are one
pub one-place : (streams : List Stream) → AreDistinct streams → (i j : ℕ) (k l : Stream) → slice_get streams i ≡ Some k → slice_get streams j ≡ Some l → k.id ≡ l.id → i ≡ j
one-place streams distinct i j k l e f same-id = go (cases_order i j)
  where
    go : (i ≡ j) ⊎ ((i < j) ⊎ (j < i)) → i ≡ j
    go (inl q) = q
    go (inr (inl lt)) = absurd (two_apart streams distinct i j lt (slice_get_within streams j l f) (ap (λ o. option_map_or (λ s. s.id) o 0) e ∙ same-id ∙ sym (ap (λ o. option_map_or (λ s. s.id) o 0) f)))
    go (inr (inr gt)) = absurd (two_apart streams distinct j i gt (slice_get_within streams i k e) (ap (λ o. option_map_or (λ s. s.id) o 0) f ∙ sym same-id ∙ sym (ap (λ o. option_map_or (λ s. s.id) o 0) e)))
