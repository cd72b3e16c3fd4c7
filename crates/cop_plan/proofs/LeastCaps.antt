-- The least of some caps, one stream after the other.
use Rattle.std.proofs.Common.{◌≡◌, ℕ, ◌+◌, ◌<◌, ◌≤◌, ◌⊎◌, inl, inr, min, List, length, get_or, Option, Some, None, is_some, true, true≢false, refl, sym, ◌∙◌, subst, arith, ⊎_elim}
use Rattle.std.proofs.lemmas.Bool.{cases_lt, cases_eq}
use Rattle.cop_rta.specs.declared.streams.Stream.{Stream}
use Rattle.cop_plan.specs.Caps.{deadline_of, HaveLeast}
use Rattle.cop_plan.proofs.CapLemmas.{dated_inside}

-- of so many streams
pub record AreLeastSoFar (streams : List Stream) (caps : List ℕ) (margin k least : ℕ) : Type 0 where
  pub most : least ≤ margin
  pub each : (j d : ℕ) → j < k → deadline_of streams j ≡ Some d → least ≤ get_or caps j 0
  pub reached : (least ≡ margin) ⊎ ((j : ℕ) × (d : ℕ) × (deadline_of streams j ≡ Some d) × (least ≡ get_or caps j 0))

pub least_begins : (streams : List Stream) (caps : List ℕ) (margin : ℕ) → AreLeastSoFar streams caps margin 0 margin
least_begins streams caps margin = record { most = omega arith; each = λ j d h e. absurd (omega (arith, h)); reached = inl refl }

module _ (streams : List Stream) (caps : List ℕ) (margin k least : ℕ) (so_far : AreLeastSoFar streams caps margin k least) where
  least_dated : (d : ℕ) → deadline_of streams k ≡ Some d → AreLeastSoFar streams caps margin (k + 1) (min least (get_or caps k 0))
  least_dated d e = record {
    most = omega (arith, so_far.most);
    each = λ j x h there. ⊎_elim
        (λ (same : j ≡ k). subst (λ (j : ℕ). min least (get_or caps k 0) ≤ get_or caps j 0) (sym same) (omega arith))
        (λ (apart : j ≡ k → ⊥). let before = so_far.each j x (omega (arith, h, apart)) there in omega (arith, before))
        (cases_eq j k);
    reached = ⊎_elim
        (λ (lower : get_or caps k 0 < least). inr (k, d, e, omega (arith, lower)))
        (λ (kept : least ≤ get_or caps k 0). ⊎_elim
        (λ (same : least ≡ margin). inl (omega (arith, kept, same)))
        (λ found. inr (found.0, found.1, found.2, omega (arith, kept, found.3)))
        so_far.reached)
        (cases_lt (get_or caps k 0) least);
  }

  pub least_by_deadline : (o : Option ℕ) → deadline_of streams k ≡ o → is_some o ≡ true → AreLeastSoFar streams caps margin (k + 1) (min least (get_or caps k 0))
  least_by_deadline None e some = absurd (true≢false (sym some))
  least_by_deadline (Some d) e some = least_dated d e

  pub least_undated : deadline_of streams k ≡ None → AreLeastSoFar streams caps margin (k + 1) least
  least_undated none = record {
    most = so_far.most;
    each = λ j x h there. ⊎_elim
        (λ (same : j ≡ k). absurd (missing x (subst (λ (j : ℕ). deadline_of streams j ≡ Some x) same there)))
        (λ (apart : j ≡ k → ⊥). so_far.each j x (omega (arith, h, apart)) there)
        (cases_eq j k);
    reached = so_far.reached;
  }
    where
      missing : (x : ℕ) → deadline_of streams k ≡ Some x → ⊥
      missing x e = let bad : ◌≡◌ {A = Option ℕ} None (Some x) = sym none ∙ e in cc

  pub all_least : length streams ≤ k → HaveLeast streams caps margin least
  all_least all = record {
    most = so_far.most;
    each = λ j d e. so_far.each j d (omega (arith, all, dated_inside streams j d e)) e;
    reached = so_far.reached;
  }
