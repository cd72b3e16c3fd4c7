-- Bounds by verdicts.
use Rattle.std.proofs.Common.{◌≡◌, ◌∙◌, ℕ, ◌≤◌, ◌<◌, inl, inr, List, [], ◌∷◌, zero, suc, length, get_or, refl, sym, ap, subst, arith, Option, Some, None}
use Rattle.std.specs.Prelude.{map, slice_index_or}
use Rattle.std.proofs.lemmas.Bool.{cases_lt}
use Rattle.cop_frame.specs.declared.rates.Rate.{Rate}
use Rattle.cop_rta.specs.declared.streams.Stream.{Stream}
use Rattle.cop_rta.specs.declared.verdicts.Verdict.{Verdict}
use Rattle.cop_rta.specs.declared.verdicts.Verdict.TheVariants.{Pass, Late, Long}
use Rattle.cop_rta.specs.Test.{StreamPlace, place_by_id}
use Rattle.cop_rta.specs.Verdict.{IsJudged, PassesBy}
use Rattle.cop_log.specs.Bounds.{bound_of}

bound_at : (vs : List Verdict) (p : ℕ) → slice_index_or (map bound_of vs) p None ≡ bound_of (get_or vs p Long)
bound_at [] zero = refl
bound_at [] (suc p) = refl
bound_at (v ∷ vs) zero = refl
bound_at (v ∷ vs) (suc p) = bound_at vs p

past : (vs : List Verdict) (p : ℕ) → length vs ≤ p → get_or vs p Long ≡ Long
past [] zero h = refl
past [] (suc p) h = refl
past (v ∷ vs) zero h = absurd (omega arith)
past (v ∷ vs) (suc p) h = past vs p (omega arith)

pass_is : (v : Verdict) (d : ℕ) → bound_of v ≡ Some d → v ≡ Pass d
pass_is (Pass r) d e = let q : r ≡ d = cc in ap Pass q
pass_is (Late q r) d e = absurd (cc)
pass_is Long d e = absurd (cc)

module _ (rate : Rate) (streams : List Stream) (vs : List Verdict) (count : length vs ≡ length streams)
    (judged : (k : ℕ) → k < length streams → IsJudged (place_by_id streams k rate) (get_or vs k Long)) (bounds : List (Option ℕ)) (are : bounds ≡ map bound_of vs) where
  pub sound : (p d : ℕ) → slice_index_or bounds p None ≡ Some d → PassesBy (place_by_id streams p rate) d
  sound p d e =
      let b : bound_of (get_or vs p Long) ≡ Some d = sym (bound_at vs p) ∙ (ap (λ bs. slice_index_or bs p None) (sym are) ∙ e) in
      let v = pass_is (get_or vs p Long) d b in
      elim (cases_lt p (length streams)) [
        | inl l ↦ subst (IsJudged (place_by_id streams p rate)) v (judged p l)
        | inr l ↦ (let long : bound_of Long ≡ Some d = ap bound_of (sym (past vs p (omega arith))) ∙ b in absurd (none_is d long))
      ]
    where
      none_is : (d : ℕ) → None ≡ Some d → ⊥
      none_is d e = cc

  pub each : ((p : StreamPlace) (v w : Verdict) → IsJudged p v → IsJudged p w → v ≡ w) → (p r : ℕ) → p < length streams → PassesBy (place_by_id streams p rate) r → slice_index_or bounds p None ≡ Some r
  each one p r l h = ap (λ bs. slice_index_or bs p None) are ∙ (bound_at vs p ∙ ap bound_of (one (place_by_id streams p rate) (get_or vs p Long) (Pass r) (judged p l) h))
