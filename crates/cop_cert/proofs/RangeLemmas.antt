-- What passes over two ranges, and refusals by an SDO frame.
use Rattle.std.proofs.Common.{◌≡◌, ◌≢◌, ℕ, ◌<◌, ◌≤◌, ◌⊎◌, inl, inr, Bool, true, nat_lt, nat_le, List, length, slice_get, Option, Some, None, sym, subst, ◌∙◌, arith, ⊎_elim}
use Rattle.std.proofs.lemmas.Bool.{cases_lt, ltb-true, lt-ltb, cond-true, le-leb}
use Rattle.std.proofs.lemmas.Option.{slice_get_cases}
use Rattle.cop_frame.specs.declared.rates.Rate.{Rate}
use Rattle.cop_rta.specs.declared.streams.Stream.{Stream}
use Rattle.cop_rta.specs.Test.{Passes}
use Rattle.cop_rta.specs.Witnesses.{HasMoreAbove}
use Rattle.cop_rta.proofs.MoreAbove.{passes_under_fewer}
use Rattle.cop_cert.specs.declared.refusals.Evidence.{Evidence}
use Rattle.cop_cert.specs.declared.refusals.Member.{Member}
use Rattle.cop_cert.specs.Assignments.{id_under, is_lower, place_under, id_at, AreOutside, IsSdo, IsTested, IsPassing, NoAssignmentPasses}
use Rattle.cop_cert.specs.Sets.{is_in_trial, trial, IsStuckSet, IsRefusalSet}
use Rattle.cop_cert.specs.Evidence.{is_member}
use Rattle.cop_rta.specs.declared.ranges.IdRange.{IdRange}
use Rattle.cop_rta.specs.Ranges.{first_range, second_range, IsIn, IsOutside, IsPermitted}
use Rattle.cop_cert.specs.Causes.{kept, PassesBelow, IsSdoRefusal}
use Rattle.cop_cert.proofs.AboveLemmas.{more_above, id_of_pdo, id_of_fixed, trial_of_pdo, trial_of_fixed, below_bound, is_below, ids_within_bound}
use Rattle.cop_cert.proofs.EvidenceLemmas.{evidence_fails}
use Rattle.cop_cert.proofs.SetLemmas.{set_stays_below, failing_are_stuck}

module _ (rate : Rate) (streams : List Stream) (pdos : ℕ) where
  -- an assignment within a set, by a range
  pub ids_within_range : (range : IdRange) (members : ℕ → Bool) (ids : ℕ → ℕ) (p : ℕ) → AreOutside range streams pdos → p < pdos → IsIn range (ids p)
      → ((k : ℕ) → k < pdos → k ≢ p → ids k < ids p → members k ≡ true)
      → HasMoreAbove (place_under rate streams pdos ids p) (is_in_trial range.least streams pdos members)
  ids_within_range range members ids p outside inside own each =
      ids_within_bound rate streams pdos range.least (ids p) members ids p (λ k fixed below. above (id_at streams k) (outside k fixed below)) inside (omega arith) each
    where
      above : (id : ℕ) → IsOutside range id → (id < range.least) ⊎ (ids p < id)
      above id (inl l) = inl l
      above id (inr l) = inr (omega (arith, l, own.1))

  -- at a fixed frame: a set within an assignment, where each member has a lower identifier
  pub set_within_ids_at : (members : ℕ → Bool) (ids : ℕ → ℕ) (f : ℕ) → pdos ≤ f → ((k : ℕ) → k < pdos → members k ≡ true → ids k < id_at streams f)
      → HasMoreAbove (trial (id_at streams f) rate streams pdos members f) (is_lower streams pdos ids f)
  set_within_ids_at members ids f late each = more_above (trial (id_at streams f) rate streams pdos members f) (is_lower streams pdos ids f) (λ k below other e. go k e (cases_lt k pdos))
    where
      go : (k : ℕ) → is_in_trial (id_at streams f) streams pdos members k ≡ true → (k < pdos) ⊎ (pdos ≤ k) → is_lower streams pdos ids f k ≡ true
      go k e (inl pdo) = lt-ltb (id_under streams pdos ids k) (id_under streams pdos ids f)
          (omega (arith, id_of_pdo streams pdos ids k pdo, id_of_fixed streams pdos ids f late, each k pdo (sym (trial_of_pdo streams pdos (id_at streams f) members k pdo) ∙ e)))
      go k e (inr fixed) = lt-ltb (id_under streams pdos ids k) (id_under streams pdos ids f)
          (omega (
            arith,
            id_of_fixed streams pdos ids k fixed,
            id_of_fixed streams pdos ids f late,
            below_bound (id_at streams f) (slice_get streams k) (sym (trial_of_fixed streams pdos (id_at streams f) members k fixed) ∙ e),
          ))

  -- and an assignment within a set, where each PDO with a lower identifier is a member
  pub ids_within_set_at : (members : ℕ → Bool) (ids : ℕ → ℕ) (f : ℕ) → pdos ≤ f → ((k : ℕ) → k < pdos → ids k < id_at streams f → members k ≡ true)
      → HasMoreAbove (place_under rate streams pdos ids f) (is_in_trial (id_at streams f) streams pdos members)
  ids_within_set_at members ids f late each = more_above (place_under rate streams pdos ids f) (is_in_trial (id_at streams f) streams pdos members)
      (λ k below other e. go k below (ltb-true (id_under streams pdos ids k) (id_under streams pdos ids f) e) (cases_lt k pdos))
    where
      there : (k : ℕ) → k < length streams → slice_get streams k ≡ None → ⊥
      there k below none = ⊎_elim (λ s. let bad : ◌≡◌ {A = Option Stream} (Some s.0) None = sym s.2 ∙ none in cc) (λ past. omega (arith, past.0)) (slice_get_cases streams k).1

      go : (k : ℕ) → k < length streams → id_under streams pdos ids k < id_under streams pdos ids f → (k < pdos) ⊎ (pdos ≤ k) → is_in_trial (id_at streams f) streams pdos members k ≡ true
      go k below lower (inl pdo) = trial_of_pdo streams pdos (id_at streams f) members k pdo
          ∙ each k pdo (omega (arith, id_of_pdo streams pdos ids k pdo, id_of_fixed streams pdos ids f late, lower))
      go k below lower (inr fixed) = trial_of_fixed streams pdos (id_at streams f) members k fixed
          ∙ is_below (id_at streams f) (slice_get streams k) (there k below) (omega (arith, id_of_fixed streams pdos ids k fixed, id_of_fixed streams pdos ids f late, lower))

pub permitted_low : (pdos id : ℕ) → IsPermitted pdos id → first_range.least ≤ id
permitted_low pdos id (inl here) = here.0
permitted_low pdos id (inr (few, high)) = omega (arith, high.0)

-- where identifiers pass over both ranges, no PDO is in a stuck set of the first
pub none_stuck : (rate : Rate) (streams : List Stream) (pdos : ℕ) (members : ℕ → Bool) (ids : ℕ → ℕ) → pdos ≤ length streams → IsStuckSet first_range.least rate streams pdos members
    → IsPassing rate streams pdos ids → (k : ℕ) → k < pdos → members k ≡ true → ⊥
none_stuck rate streams pdos members ids count stuck passing k below member =
    omega (
      arith,
      permitted_low pdos (ids k) (passing.0.permitted k below),
      set_stays_below first_range.least rate streams pdos members ids count stuck passing.0.distinct passing.1.each k below member,
    )

-- so where there is a refusal set of the first, none pass
pub set_rules_out_ranges : (rate : Rate) (streams : List Stream) (pdos : ℕ) (members : ℕ → Bool) → pdos ≤ length streams
    → IsRefusalSet first_range.least rate streams pdos members → NoAssignmentPasses rate streams pdos
set_rules_out_ranges rate streams pdos members count set ids passing =
    none_stuck rate streams pdos members ids count set.each passing set.some.0 set.some.1 set.some.2

-- a PDO with an identifier below the second range, or beside too many for it, has one of the first
in_first : (pdos id : ℕ) → IsPermitted pdos id → (id < second_range.least) ⊎ (second_range.count < pdos) → IsIn first_range id
in_first pdos id (inl here) low = here
in_first pdos id (inr (few, high)) (inl low) = absurd (omega (arith, high.0, low))
in_first pdos id (inr (few, high)) (inr many) = absurd (omega (arith, few, many))

module _ (rate : Rate) (streams : List Stream) (pdos : ℕ) (members : ℕ → Bool) (count : pdos ≤ length streams) (stuck : pdos ≤ second_range.count → IsStuckSet second_range.least rate streams pdos members) where
  -- where identifiers pass, each kept PDO has one of the first range
  pub kept_in_first : (ids : ℕ → ℕ) → IsPassing rate streams pdos ids → (k : ℕ) → k < pdos → kept pdos members k ≡ true → IsIn first_range (ids k)
  kept_in_first ids passing k below is = in_first pdos (ids k) (passing.0.permitted k below) (go (cases_lt second_range.count pdos))
    where
      go : (second_range.count < pdos) ⊎ (pdos ≤ second_range.count) → (ids k < second_range.least) ⊎ (second_range.count < pdos)
      go (inl many) = inr many
      go (inr few) =
          let member : members k ≡ true = sym (cond-true (nat_le pdos second_range.count) (members k) (nat_lt k pdos) (le-leb pdos second_range.count few)) ∙ is in
          inl (set_stays_below second_range.least rate streams pdos members ids count (stuck few) passing.0.distinct passing.1.each k below member)

  -- and each SDO frame with a deadline passes below them
  pub frame_passes : (ids : ℕ → ℕ) → IsPassing rate streams pdos ids → (f : ℕ) → IsTested streams pdos f → PassesBelow rate streams pdos (kept pdos members) f
  frame_passes ids passing f tested =
      passes_under_fewer (trial (id_at streams f) rate streams pdos (kept pdos members) f) (is_lower streams pdos ids f) tested.inside
      (set_within_ids_at rate streams pdos (kept pdos members) ids f tested.fixed (λ k below is. omega (arith, (kept_in_first ids passing k below is).1, sdo_high (id_at streams f) tested.sdo)))
      (passing.1.frames f tested)
    where
      sdo_high : (id : ℕ) → IsSdo id → 0x581 ≤ id
      sdo_high id (inl h) = h.0
      sdo_high id (inr h) = omega (arith, h.0)

-- where a refusal by an SDO frame holds, no assignment passes
pub sdo_rules_out : (rate : Rate) (streams : List Stream) (pdos : ℕ) (up : List Member) (id : ℕ) (evidence : Evidence) → pdos ≤ length streams
    → IsSdoRefusal rate streams pdos up id evidence → NoAssignmentPasses rate streams pdos
sdo_rules_out rate streams pdos up id evidence count refusal ids passing =
    evidence_fails (trial id rate streams pdos (kept pdos (is_member up)) refusal.frame) evidence refusal.fails
    (subst (λ (bound : ℕ). Passes (trial bound rate streams pdos (kept pdos (is_member up)) refusal.frame)) refusal.its
    (frame_passes rate streams pdos (is_member up) count (λ _. failing_are_stuck second_range.least rate streams pdos up refusal.failing) ids passing refusal.frame refusal.tested))
