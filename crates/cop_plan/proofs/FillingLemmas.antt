-- Lists without repetition, and the rank of what they list.
use Rattle.std.proofs.Common.{◌≡◌, ◌≢◌, ℕ, zero, suc, ◌+◌, get_or, ◌<◌, ◌⊎◌, inl, inr, Bool, true, false, ◌==◌, List, [], ◌∷◌, length, refl, sym, ◌∙◌, arith}
use Rattle.std.proofs.lemmas.Bool.{cases_eq, eqb-true, eq-eqb, ne_eqb, or_cases, or_left, or_right, cond-true, cond-false}
use Rattle.cop_cert.specs.Evidence.{is_listed}
use Rattle.cop_plan.specs.Fillings.{AreDistinct, rank}

pub no_bit : (b : Bool) → b ≡ true → b ≡ false → ⊥
no_bit b e f = cc

-- ---- lists without repetition

pub among_head : (p : ℕ) (rest : List ℕ) → is_listed (p ∷ rest) p ≡ true
among_head p rest = or_left (p == p) (is_listed rest p) (eq-eqb p p refl)

pub among_tail : (p k : ℕ) (rest : List ℕ) → is_listed rest k ≡ true → is_listed (p ∷ rest) k ≡ true
among_tail p k rest h = or_right (p == k) (is_listed rest k) h

pub among_cases : (p k : ℕ) (rest : List ℕ) → is_listed (p ∷ rest) k ≡ true → (p ≡ k) ⊎ (is_listed rest k ≡ true)
among_cases p k rest h = go (or_cases (p == k) (is_listed rest k) h)
  where
    go : ((p == k) ≡ true) ⊎ (is_listed rest k ≡ true) → (p ≡ k) ⊎ (is_listed rest k ≡ true)
    go (inl e) = inl (eqb-true p k e)
    go (inr later) = inr later

-- what is in the tail is not the head
pub not_head : (p k : ℕ) (rest : List ℕ) → is_listed rest p ≡ false → is_listed rest k ≡ true → p ≢ k
not_head p k rest absent h e = no_bit (is_listed rest k) h (rw e at absent)

pub rank-head : (p : ℕ) (rest : List ℕ) → rank (p ∷ rest) p ≡ length rest
rank-head p rest = cond-true (p == p) (length rest) (rank rest p) (eq-eqb p p refl)

pub rank-tail : (p k : ℕ) (rest : List ℕ) → p ≢ k → rank (p ∷ rest) k ≡ rank rest k
rank-tail p k rest apart = cond-false (p == k) (length rest) (rank rest k) (ne_eqb p k apart)

pub rank_below : (fill : List ℕ) (k : ℕ) → is_listed fill k ≡ true → rank fill k < length fill
rank_below [] k h = absurd (no_bit false h refl)
rank_below (p ∷ rest) k h = go (rank_below rest k) (among_cases p k rest h) (cases_eq p k)
  where
    go : (is_listed rest k ≡ true → rank rest k < length rest) → (p ≡ k) ⊎ (is_listed rest k ≡ true) → (p ≡ k) ⊎ (p ≡ k → ⊥) → rank (p ∷ rest) k < length (p ∷ rest)
    go before _ (inl e) = rw (← e) (omega (arith, rank-head p rest))
    go before (inl e) (inr apart) = absurd (apart e)
    go before (inr later) (inr apart) = omega (arith, rank-tail p k rest apart, before later)

pub rank_apart : (fill : List ℕ) (k i : ℕ) → is_listed fill k ≡ true → is_listed fill i ≡ true → rank fill k ≡ rank fill i → k ≡ i
rank_apart [] k i h g e = absurd (no_bit false h refl)
rank_apart (p ∷ rest) k i h g e = go (rank_apart rest k i) (among_cases p k rest h) (among_cases p i rest g) (cases_eq p k) (cases_eq p i)
  where
    go : (is_listed rest k ≡ true → is_listed rest i ≡ true → rank rest k ≡ rank rest i → k ≡ i) → (p ≡ k) ⊎ (is_listed rest k ≡ true) → (p ≡ i) ⊎ (is_listed rest i ≡ true) → (p ≡ k) ⊎ (p ≡ k → ⊥) → (p ≡ i) ⊎ (p ≡ i → ⊥) → k ≡ i
    go before _ _ (inl f) (inl g) = sym f ∙ g
    go before (inl f) _ (inr apart) _ = absurd (apart f)
    go before _ (inl f) _ (inr apart) = absurd (apart f)
    go before (inr k_later) (inr i_later) (inr k_apart) (inr i_apart) =
        before k_later i_later (sym (rank-tail p k rest k_apart) ∙ (e ∙ rank-tail p i rest i_apart))
    go before _ (inr i_later) (inl f) (inr i_apart) =
        let here : rank (p ∷ rest) k ≡ length rest = rw (← f) (rank-head p rest) in
        absurd (omega (arith, here, e, rank-tail p i rest i_apart, rank_below rest i i_later))
    go before (inr k_later) _ (inr k_apart) (inl f) =
        let here : rank (p ∷ rest) i ≡ length rest = rw (← f) (rank-head p rest) in
        absurd (omega (arith, here, e, rank-tail p k rest k_apart, rank_below rest k k_later))

-- each rank below the length is taken
pub rank_full : (fill : List ℕ) → AreDistinct fill → (i : ℕ) → i < length fill → (k : ℕ) × (is_listed fill k ≡ true) × (rank fill k ≡ i)
rank_full [] d i h = absurd (omega arith)
rank_full (p ∷ rest) d i h = go (rank_full rest d.1 i) (cases_eq i (length rest))
  where
    go : (i < length rest → (k : ℕ) × (is_listed rest k ≡ true) × (rank rest k ≡ i)) → (i ≡ length rest) ⊎ (i ≡ length rest → ⊥) → (k : ℕ) × (is_listed (p ∷ rest) k ≡ true) × (rank (p ∷ rest) k ≡ i)
    go before (inl e) = (p, among_head p rest, rank-head p rest ∙ sym e)
    go before (inr apart) =
        let found : (k : ℕ) × (is_listed rest k ≡ true) × (rank rest k ≡ i) = before (omega arith) in
        (found.0, among_tail p found.0 rest found.1, rank-tail p found.0 rest (not_head p found.0 rest d.0 found.1) ∙ found.2)

-- what stands at a place of a list is in it
pub listed_at : (fill : List ℕ) (j d : ℕ) → j < length fill → is_listed fill (get_or fill j d) ≡ true
listed_at [] j d h = absurd (omega arith)
listed_at (p ∷ rest) zero d h = among_head p rest
listed_at (p ∷ rest) (suc j) d h = among_tail p (get_or rest j d) rest (listed_at rest j d (omega arith))

-- and its rank is how many come after it
pub rank_at : (fill : List ℕ) → AreDistinct fill → (j d : ℕ) → j < length fill → rank fill (get_or fill j d) + suc j ≡ length fill
rank_at [] distinct j d h = absurd (omega arith)
rank_at (p ∷ rest) distinct zero d h = omega (arith, rank-head p rest)
rank_at (p ∷ rest) distinct (suc j) d h =
    let later : is_listed rest (get_or rest j d) ≡ true = listed_at rest j d (omega arith) in
    omega (arith, rank-tail p (get_or rest j d) rest (not_head p (get_or rest j d) rest distinct.0 later), rank_at rest distinct.1 j d (omega arith))
