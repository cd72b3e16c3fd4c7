-- Which streams are tested and fail, one after the other.
use Rattle.std.proofs.Common.{◌≡◌, ◌↔◌, ◌⊎◌, inl, inr, ℕ, ◌+◌, ◌<◌, ◌≤◌, List, [], ◌∷◌, ◌++◌, length, get_or, Contains, AllPairs, All, refl, subst, arith, ⊎_elim}
use Rattle.std.proofs.lemmas.Bool.{cases_lt}
use Rattle.std.proofs.lemmas.List.Elements.{Contains-append_left, Contains-push, Contains-push_cases, at_from_Contains, All-push}
use Rattle.std.proofs.lemmas.List.Quantifiers.{all_pairs_push}
use Rattle.cop_frame.specs.declared.rates.Rate.{Rate}
use Rattle.cop_rta.specs.declared.streams.Stream.{Stream}
use Rattle.cop_rta.specs.declared.verdicts.Verdict.{Verdict}
use Rattle.cop_rta.specs.declared.verdicts.Verdict.TheVariants.{Pass, Late, Long}
use Rattle.cop_rta.specs.Test.{place_by_id}
use Rattle.cop_rta.specs.Verdict.{IsJudged, IsPass}
use Rattle.cop_rta.proofs.VerdictLemmas.{pass_iff}
use Rattle.cop_standing.specs.Answers.{AllPassNow, IsFailing, IsLate}

module _ (streams : List Stream) (pdos : ℕ) (verdicts : List Verdict) where
  -- those among the first so many streams
  pub record AreLateSoFar (n : ℕ) (failing : List ℕ) : Type 0 where
    pub exact : (k : ℕ) → Contains failing k ↔ ((k < n) × IsLate streams pdos verdicts k)
    pub below : All (λ k. k < n) failing
    pub rises : AllPairs (λ j k. j < k) failing

  pub none_late : AreLateSoFar 0 []
  none_late = record {
    exact = λ k. ((λ member. let at = at_from_Contains [] k member in absurd (omega (arith, at.1))), (λ both. absurd (omega (arith, both.0))));
    below = λ k d h. absurd (omega (arith, h));
    rises = λ j k d lt h. absurd (omega (arith, h));
  }

  -- the next one fails
  pub one_late : (n : ℕ) (failing : List ℕ) → AreLateSoFar n failing → IsLate streams pdos verdicts n → AreLateSoFar (n + 1) (failing ++ n ∷ [])
  one_late n failing so_far late = record {
    exact = λ k. (
      (λ member. ⊎_elim
          (λ (old : Contains failing k). let both = (so_far.exact k).0 old in (omega (arith, both.0), both.1))
          (λ (new : n ≡ k). (omega (arith, new), subst (IsLate streams pdos verdicts) new late))
          (Contains-push_cases failing n k member)),
      (λ both. ⊎_elim
          (λ (low : k < n). Contains-append_left failing (n ∷ []) k ((so_far.exact k).1 (low, both.1)))
          (λ (high : n ≤ k). let same : n ≡ k = omega (arith, high, both.0) in subst (Contains (failing ++ n ∷ [])) same (Contains-push failing n))
          (cases_lt k n)),
    );
    below = All-push (λ k. k < n + 1) failing n (λ k d h. let lt = so_far.below k d h in omega (arith, lt)) (omega arith);
    rises = all_pairs_push (λ j k. j < k) failing n so_far.rises so_far.below;
  }

  -- the next one does not
  pub one_fine : (n : ℕ) (failing : List ℕ) → AreLateSoFar n failing → (IsLate streams pdos verdicts n → ⊥) → AreLateSoFar (n + 1) failing
  one_fine n failing so_far fine = record {
    exact = λ k. (
      (λ member. let both = (so_far.exact k).0 member in (omega (arith, both.0), both.1)),
      (λ both. ⊎_elim
          (λ (low : k < n). (so_far.exact k).1 (low, both.1))
          (λ (high : n ≤ k). let same : k ≡ n = omega (arith, high, both.0) in absurd (fine (subst (IsLate streams pdos verdicts) same both.1)))
          (cases_lt k n)),
    );
    below = λ k d h. let lt = so_far.below k d h in omega (arith, lt);
    rises = so_far.rises;
  }

  pub all_late : (n : ℕ) (failing : List ℕ) → length streams ≤ n → AreLateSoFar n failing → (k : ℕ) → Contains failing k ↔ IsLate streams pdos verdicts k
  all_late n failing past so_far k = (
    (λ member. ((so_far.exact k).0 member).1),
    (λ late. (so_far.exact k).1 (let inside = late.inside in omega (arith, inside, past), late)),
  )

-- a verdict is a pass or none
pass_or_not : (v : Verdict) → IsPass v ⊎ (IsPass v → ⊥)
pass_or_not (Pass response) = inl tt
pass_or_not (Late q response) = inr (λ pass. pass)
pass_or_not Long = inr (λ pass. pass)

-- a list with no element
none_in : (failing : List ℕ) → ((k : ℕ) → Contains failing k → ⊥) → failing ≡ []
none_in [] none = refl
none_in (k ∷ ks) none = absurd (none k (0, omega arith, refl))

none_of_none : (failing : List ℕ) (k : ℕ) → failing ≡ [] → Contains failing k → ⊥
none_of_none failing k empty member = let at = subst (λ xs. Contains xs k) empty member in absurd (omega (arith, at.1))

-- what is late by verdicts fails
module _ (rate : Rate) (streams : List Stream) (pdos : ℕ) (verdicts : List Verdict)
    (judged : (k : ℕ) → k < length streams → IsJudged (place_by_id streams k rate) (get_or verdicts k Long))
    (failing : List ℕ) (exact : (k : ℕ) → Contains failing k ↔ IsLate streams pdos verdicts k) where
  fails_as : (k : ℕ) → IsLate streams pdos verdicts k ↔ IsFailing rate streams pdos k
  fails_as k = (
    (λ late. record { inside = late.inside; asked = late.asked; fails = λ passes. late.fails ((pass_iff (place_by_id streams k rate) (get_or verdicts k Long) (judged k late.inside)).1 passes) }),
    (λ fails. record { inside = fails.inside; asked = fails.asked; fails = λ pass. fails.fails ((pass_iff (place_by_id streams k rate) (get_or verdicts k Long) (judged k fails.inside)).0 pass) }),
  )

  pub failing_exactly : (k : ℕ) → Contains failing k ↔ IsFailing rate streams pdos k
  failing_exactly k = ((λ member. (fails_as k).0 ((exact k).0 member)), (λ fails. (exact k).1 ((fails_as k).1 fails)))

  pub passes_exactly : (failing ≡ []) ↔ AllPassNow rate streams pdos
  passes_exactly = (
    (λ empty k inside asked. ⊎_elim
        (λ pass. (pass_iff (place_by_id streams k rate) (get_or verdicts k Long) (judged k inside)).0 pass)
        (λ fails. absurd (none_of_none failing k empty ((exact k).1 (record { inside = inside; asked = asked; fails = fails }))))
        (pass_or_not (get_or verdicts k Long))),
    (λ all. none_in failing (λ k member. let fails = (failing_exactly k).0 member in fails.fails (all k fails.inside fails.asked))),
  )
