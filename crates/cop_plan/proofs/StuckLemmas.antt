-- What is left when places were filled is the greatest stuck set of the bound, whatever the choices were.
use Rattle.std.proofs.Common.{◌≡◌, ℕ, ◌<◌, ◌≤◌, ◌⊎◌, inl, inr, Bool, true, false, ◌==◌, List, [], ◌∷◌, length, refl, sym, ◌∙◌, arith}
use Rattle.std.proofs.lemmas.Bool.{or_cases, or_right, eqb-true}
use Rattle.cop_frame.specs.declared.rates.Rate.{Rate}
use Rattle.cop_rta.specs.declared.streams.Stream.{Stream}
use Rattle.cop_rta.specs.Test.{Passes}
use Rattle.cop_rta.proofs.MoreAbove.{passes_under_fewer}
use Rattle.cop_cert.specs.Evidence.{is_listed}
use Rattle.cop_cert.specs.Sets.{trial, is_in_trial, IsStuckSet, IsGreatestStuckSet}
use Rattle.cop_cert.proofs.AboveLemmas.{set_within_set}
use Rattle.cop_plan.specs.Fillings.{with_left, PassInTurn, AreSplit}
use Rattle.cop_plan.proofs.FillingLemmas.{among_head, among_tail}

module _ (bound : ℕ) (rate : Rate) (streams : List Stream) (pdos : ℕ) (count : pdos ≤ length streams) where
  -- what passes with a set above it is in no stuck set within that set
  pub passes_in_none : (more others : ℕ → Bool) (p : ℕ) → p < pdos → Passes (trial bound rate streams pdos more p)
      → IsStuckSet bound rate streams pdos others → ((k : ℕ) → k < pdos → others k ≡ true → more k ≡ true) → others p ≡ true → ⊥
  passes_in_none more others p below passes stuck within member =
      stuck p below member (passes_under_fewer (trial bound rate streams pdos others p) (is_in_trial bound streams pdos more) (omega (arith, below, count))
      (set_within_set rate streams pdos bound others more p (λ k i _ m. within k i m)) passes)

  -- so a stuck set loses no member when places are filled
  pub stays_left : (others left : ℕ → Bool) (placed : List ℕ) → IsStuckSet bound rate streams pdos others → PassInTurn bound rate streams pdos left placed
      → ((k : ℕ) → is_listed placed k ≡ true → k < pdos) → ((k : ℕ) → k < pdos → others k ≡ true → with_left placed left k ≡ true)
      → (k : ℕ) → k < pdos → others k ≡ true → left k ≡ true
  stays_left others left [] stuck passes inside within = λ k below member. within k below member
  stays_left others left (p ∷ rest) stuck passes inside within =
      stays_left others left rest stuck passes.1 (λ k m. inside k (among_tail p k rest m))
      (λ k below member. go k below member (or_cases (is_listed (p ∷ rest) k) (left k) (within k below member)))
    where
      later : (k : ℕ) → k < pdos → others k ≡ true → ((p == k) ≡ true) ⊎ (is_listed rest k ≡ true) → with_left rest left k ≡ true
      later k below member (inl here) =
          let same : p ≡ k = eqb-true p k here in
          absurd (passes_in_none (with_left (p ∷ rest) left) others p (inside p (among_head p rest)) passes.0 stuck within (rw (← same) at member))
      later k below member (inr m) = rw m refl

      go : (k : ℕ) → k < pdos → others k ≡ true → (is_listed (p ∷ rest) k ≡ true) ⊎ (left k ≡ true) → with_left rest left k ≡ true
      go k below member (inl listed) = later k below member (or_cases (p == k) (is_listed rest k) listed)
      go k below member (inr m) = or_right (is_listed rest k) (left k) m

  pub left_is_greatest : (start left : ℕ → Bool) (placed : List ℕ) → AreSplit pdos start placed left → PassInTurn bound rate streams pdos left placed
      → IsStuckSet bound rate streams pdos left → IsGreatestStuckSet bound rate streams pdos start left
  left_is_greatest start left placed split passes stuck = record {
    within = λ p below m. sym (split.each p below) ∙ or_right (is_listed placed p) (left p) m;
    stuck = stuck;
    greatest = λ others fail within. stays_left others left placed fail passes split.inside (λ k below m. split.each k below ∙ within k below m);
  }

-- the greatest is one
pub greatest_is_one : (bound : ℕ) (rate : Rate) (streams : List Stream) (pdos : ℕ) (start a b : ℕ → Bool)
    → IsGreatestStuckSet bound rate streams pdos start a → IsGreatestStuckSet bound rate streams pdos start b → (p : ℕ) → p < pdos → a p ≡ b p
greatest_is_one bound rate streams pdos start a b of_a of_b p below = same (a p) (b p) (of_b.greatest a of_a.stuck of_a.within p below) (of_a.greatest b of_b.stuck of_b.within p below)
  where
    same : (x y : Bool) → (x ≡ true → y ≡ true) → (y ≡ true → x ≡ true) → x ≡ y
    same true y f g = sym (f refl)
    same false true f g = g refl
    same false false f g = refl
