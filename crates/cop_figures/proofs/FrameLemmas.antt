-- The SDO frames with deadlines among the first streams.
use Rattle.std.proofs.Common.{◌≡◌, ◌↔◌, ℕ, ◌+◌, ◌<◌, ◌≤◌, ◌⊎◌, inl, inr, List, [], ◌∷◌, ◌++◌, length, slice_get, Some, All, AllPairs, Any, sym, ◌∙◌, subst, arith, length-append}
use Rattle.std.proofs.lemmas.Bool.{cases_eq}
use Rattle.std.proofs.lemmas.List.{get_or_append_left}
use Rattle.std.proofs.lemmas.List.Elements.{All-push}
use Rattle.std.proofs.lemmas.List.Quantifiers.{all_pairs_push, Any-push}
use Rattle.cop_rta.specs.declared.streams.Stream.{Stream}
use Rattle.cop_rta.specs.Test.{place_by_id}
use Rattle.cop_rta.specs.Verdict.{PassesBy, IsJudged}
use Rattle.cop_cert.specs.Assignments.{IsTested}
use Rattle.cop_plan.specs.Values.{PlanValue}
use Rattle.cop_figures.specs.declared.frames.FrameTimes.{FrameTimes}
use Rattle.cop_figures.specs.Frames.{place_below_all, IsFrameTimed, AreFrames}

-- what some element has, one of a longer list has
any_still : (P : FrameTimes → Type 0) (xs : List FrameTimes) (y : FrameTimes) → Any P xs → Any P (xs ++ y ∷ [])
any_still P xs y (k, x, low, here, p) =
    let long : k < length (xs ++ y ∷ []) = simp length-append (omega (arith, low)) in
    (k, x, long, get_or_append_left xs (y ∷ []) x k low ∙ here, p)

-- what is said of a frame at the place of one is said of that
pub timed_at : (streams : List Stream) (plan : PlanValue) (f : ℕ) (t : FrameTimes) → t.place ≡ f → IsTested plan.streams (length plan.ids) f → slice_get plan.streams f ≡ Some t.stream
    → PassesBy (place_by_id plan.streams f plan.rate) t.response → IsJudged (place_below_all streams (length plan.ids) plan.rate f) t.below_all → IsFrameTimed streams plan t
timed_at streams plan f t here tested stream response below_all = record {
  tested = subst (IsTested plan.streams (length plan.ids)) (sym here) tested;
  stream = subst (λ (k : ℕ). slice_get plan.streams k ≡ Some t.stream) (sym here) stream;
  response = subst (λ (k : ℕ). PassesBy (place_by_id plan.streams k plan.rate) t.response) (sym here) response;
  below_all = subst (λ (k : ℕ). IsJudged (place_below_all streams (length plan.ids) plan.rate k) t.below_all) (sym here) below_all;
}

-- a plan's streams and PDOs as code has them
pub tested_in : (plan : PlanValue) (streams : List Stream) (pdos f : ℕ) → streams ≡ plan.streams → pdos ≡ length plan.ids → IsTested streams pdos f ↔ IsTested plan.streams (length plan.ids) f
tested_in plan streams pdos f same count = rw (same, count) ((λ h. h), (λ h. h))

module _ (streams : List Stream) (plan : PlanValue) where
  -- those of the first i streams
  pub record AreFirst (i : ℕ) (frames : List FrameTimes) : Type 0 where
    pub rise : AllPairs (λ t u. t.place < u.place) frames
    pub first : All (λ t. t.place < i) frames
    pub each : All (IsFrameTimed streams plan) frames
    pub every : (f : ℕ) → IsTested plan.streams (length plan.ids) f → f < i → Any (λ t. t.place ≡ f) frames

  -- the PDOs are none of them
  pub none_yet : AreFirst (length plan.ids) []
  none_yet = record {
    rise = λ i j d lt h. absurd (omega arith);
    first = λ k d h. absurd (omega arith);
    each = λ k d h. absurd (omega arith);
    every = λ f tested low. absurd (omega (arith, tested.fixed, low));
  }

  pub passed_over : (i : ℕ) (frames : List FrameTimes) → (IsTested plan.streams (length plan.ids) i → ⊥) → AreFirst i frames → AreFirst (i + 1) frames
  passed_over i frames not f = record {
    rise = f.rise;
    first = λ k d h. omega (arith, f.first k d h);
    each = f.each;
    every = λ frame tested low. every frame tested low (cases_eq frame i);
  }
    where
      every : (frame : ℕ) → IsTested plan.streams (length plan.ids) frame → frame < i + 1 → (frame ≡ i) ⊎ (frame ≡ i → ⊥) → Any (λ t. t.place ≡ frame) frames
      every frame tested low (inl same) = absurd (not (subst (IsTested plan.streams (length plan.ids)) same tested))
      every frame tested low (inr apart) = f.every frame tested (omega (arith, low, apart))

  pub one_more : (i : ℕ) (frames : List FrameTimes) (more : FrameTimes) → more.place ≡ i → IsFrameTimed streams plan more → AreFirst i frames → AreFirst (i + 1) (frames ++ more ∷ [])
  one_more i frames more here is f = record {
    rise = all_pairs_push (λ t u. t.place < u.place) frames more f.rise (λ k d h. omega (arith, f.first k d h, here));
    first = All-push (λ t. t.place < i + 1) frames more (λ k d h. omega (arith, f.first k d h)) (omega (arith, here));
    each = All-push (IsFrameTimed streams plan) frames more f.each is;
    every = λ frame tested low. every frame tested low (cases_eq frame i);
  }
    where
      every : (frame : ℕ) → IsTested plan.streams (length plan.ids) frame → frame < i + 1 → (frame ≡ i) ⊎ (frame ≡ i → ⊥) → Any (λ t. t.place ≡ frame) (frames ++ more ∷ [])
      every frame tested low (inl same) = Any-push (λ t. t.place ≡ frame) frames more (here ∙ sym same)
      every frame tested low (inr apart) = any_still (λ t. t.place ≡ frame) frames more (f.every frame tested (omega (arith, low, apart)))

  -- all streams were looked at
  pub whole : (i : ℕ) (frames : List FrameTimes) → length plan.streams ≤ i → AreFirst i frames → AreFrames streams plan frames
  whole i frames h f = record {
    rise = f.rise;
    each = f.each;
    every = λ frame tested. f.every frame tested (omega (arith, tested.inside, h));
  }
