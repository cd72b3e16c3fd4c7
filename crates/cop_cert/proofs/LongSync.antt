-- Where SYNC's busy time is past the horizon, no PDO passes: SYNC and all above it are above each PDO.
use Rattle.std.proofs.Common.{◌≡◌, ◌∙◌, ℕ, ◌<◌, ◌≤◌, ◌⊎◌, inl, inr, true, false, ◌==◌, List, length, slice_get, sym, ap, arith, true≢false, le_refl}
use Rattle.std.proofs.lemmas.Bool.{cases_lt, eqb-true, lt-ltb, or_cases, or_right}
use Rattle.cop_frame.specs.declared.rates.Rate.{Rate}
use Rattle.cop_rta.specs.declared.streams.Stream.{Stream}
use Rattle.cop_rta.specs.Test.{sync_id, jitter_of, ahead_of, of_stream, Passes}
use Rattle.cop_rta.specs.Covers.{Covers}
use Rattle.cop_rta.specs.Ranges.{first_range}
use Rattle.cop_rta.proofs.IdentifierLemmas.{place_has_id}
use Rattle.cop_rta.proofs.JitteredLemmas.{passes_with}
use Rattle.cop_rta.proofs.SyncLemmas.{place_inside, long_rules_out}
use Rattle.cop_cert.specs.Assignments.{IsAssignment, id_under, is_lower, place_under}
use Rattle.cop_cert.specs.Causes.{sync_trial, IsSync, IsSyncLong}
use Rattle.cop_cert.specs.Sets.{is_in_trial}
use Rattle.cop_cert.proofs.AboveLemmas.{id_of_pdo, id_of_fixed, trial_of_pdo, trial_of_fixed, below_bound}
use Rattle.cop_cert.proofs.RangeLemmas.{permitted_low}

module _ (rate : Rate) (streams : List Stream) (pdos : ℕ) (ids : ℕ → ℕ) (sync p : ℕ) (its : IsSync streams pdos sync) (first : p < pdos) (high : first_range.least ≤ ids p) where
  -- a fixed frame with an identifier as low as SYNC's is above the PDO
  above_pdo : (k : ℕ) → pdos ≤ k → of_stream (λ s. s.id) streams k ≤ sync_id → is_lower streams pdos ids p k ≡ true
  above_pdo k fixed low = lt-ltb (id_under streams pdos ids k) (id_under streams pdos ids p) (omega (arith, id_of_fixed streams pdos ids k fixed, id_of_pdo streams pdos ids p first, low, high))

  in_trial : (k : ℕ) → is_in_trial sync_id streams pdos (λ _. false) k ≡ true → (k < pdos) ⊎ (pdos ≤ k) → is_lower streams pdos ids p k ≡ true
  in_trial k e (inl pdo) = absurd (true≢false (sym e ∙ trial_of_pdo streams pdos sync_id (λ _. false) k pdo))
  in_trial k e (inr fixed) =
      let low = below_bound sync_id (slice_get streams k) (sym (trial_of_fixed streams pdos sync_id (λ _. false) k fixed) ∙ e) in
      above_pdo k fixed (omega (arith, low))

  sync_covered : Covers (sync_trial rate streams pdos sync) (is_lower streams pdos ids p) p
  sync_covered k inside h = or_right (k == p) (is_lower streams pdos ids p k) (go (or_cases (k == sync) (is_in_trial sync_id streams pdos (λ _. false) k) h))
    where
      go : ((k == sync) ≡ true) ⊎ (is_in_trial sync_id streams pdos (λ _. false) k ≡ true) → is_lower streams pdos ids p k ≡ true
      go (inl own) =
          let same : k ≡ sync = eqb-true k sync own in
          let id : of_stream (λ s. s.id) streams k ≡ sync_id = ap (of_stream (λ s. s.id) streams) same ∙ place_has_id streams sync_id sync its.there in
          above_pdo k (omega (arith, same, its.fixed)) (omega (arith, id))
      go (inr above) = in_trial k above (cases_lt k pdos)

pub long_sync_fails : (rate : Rate) (streams : List Stream) (pdos : ℕ) → pdos ≤ length streams → IsSyncLong rate streams pdos → (ids : ℕ → ℕ) → IsAssignment pdos ids
    → (p : ℕ) → p < pdos → Passes (place_under rate streams pdos ids p) → ⊥
long_sync_fails rate streams pdos count long ids assigned p first passes =
    let ahead : ℕ = ahead_of streams rate in
    long_rules_out (jitter_of ahead) (sync_trial rate streams pdos long.sync) (is_lower streams pdos ids p) p ahead (λ s. le_refl (jitter_of ahead s))
    (place_inside streams sync_id long.sync long.is_sync.there) (omega (arith, first, count))
    (sync_covered rate streams pdos ids long.sync p long.is_sync first (permitted_low pdos (ids p) (assigned.permitted p first))) long.long ((passes_with (place_under rate streams pdos ids p)).0 passes)
