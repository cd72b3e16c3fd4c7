-- Why no assignment of identifiers passes at a rate, and what shows it.
use Rattle.std.specs.Prelude.{◌≡◌, ℕ, ◌<◌, ◌≤◌, Bool, false, nat_lt, nat_le, if◌then◌else◌, List, [], length, Some}
use Rattle.cop_frame.specs.declared.rates.Rate.{Rate}
use Rattle.cop_rta.specs.declared.streams.Stream.{Stream}
use Rattle.cop_rta.specs.Ranges.{first_range, second_range}
use Rattle.cop_rta.specs.Streams.{place_of_id}
use Rattle.cop_rta.specs.Test.{sync_id, StreamPlace, Passes, of_stream}
use Rattle.cop_rta.specs.Verdict.{IsLong}
use Rattle.cop_cert.specs.declared.refusals.Cause.{Cause}
use Rattle.cop_cert.specs.declared.refusals.Cause.TheVariants.{Places, Sync, Sdo}
use Rattle.cop_cert.specs.declared.refusals.Evidence.{Evidence}
use Rattle.cop_cert.specs.declared.refusals.Member.{Member}
use Rattle.cop_cert.specs.declared.refusals.Refusal.{Refusal}
use Rattle.cop_cert.specs.Assignments.{id_at, IsTested}
use Rattle.cop_cert.specs.Evidence.{ShowsLong, IsEvidence, is_member, AreFailing}
use Rattle.cop_cert.specs.Sets.{trial}

-- SYNC's own place: the fixed frames with lower identifiers are above it, all others below
abbrev pub sync_trial : Rate → List Stream → ℕ → ℕ → StreamPlace
sync_trial rate streams pdos sync = trial sync_id rate streams pdos (λ _. false) sync

-- SYNC is one of the fixed frames
pub record IsSync (streams : List Stream) (pdos sync : ℕ) : Type 0 where
  pub there : place_of_id streams sync_id ≡ Some sync
  pub fixed : pdos ≤ sync

-- some PDO is synchronous
abbrev pub HasSynchronous : List Stream → ℕ → Type 0
HasSynchronous streams pdos = (p : ℕ) × (p < pdos) × (1 ≤ of_stream (λ s. s.every) streams p)

-- some PDO is synchronous, and SYNC's busy time is past the horizon: nothing bounds what the PDO waits for
pub record IsSyncLong (rate : Rate) (streams : List Stream) (pdos : ℕ) : Type 0 where
  pub some : HasSynchronous streams pdos
  pub sync : ℕ
  pub is_sync : IsSync streams pdos sync
  pub long : IsLong (sync_trial rate streams pdos sync)

-- the PDOs that cannot stand in the second range: some of them, or all where it has no room for all
abbrev pub kept : ℕ → (ℕ → Bool) → ℕ → Bool
kept pdos members k = if nat_le pdos second_range.count then members k else nat_lt k pdos

-- an SDO frame with a deadline, below the kept PDOs and all fixed frames with lower identifiers
abbrev pub PassesBelow : Rate → List Stream → ℕ → (ℕ → Bool) → ℕ → Type 0
PassesBelow rate streams pdos above f = Passes (trial (id_at streams f) rate streams pdos above f)

-- PDOs, one at least, each of which has evidence that it fails with the rest of them and the fixed frames below 181h above it
pub record IsPlacesRefusal (rate : Rate) (streams : List Stream) (pdos : ℕ) (members : List Member) : Type 0 where
  pub not_long : IsSyncLong rate streams pdos → ⊥
  pub some : 0 < length members
  pub failing : AreFailing first_range.least rate streams pdos members

-- a busy list of SYNC that ends past the horizon, where some PDO is synchronous
pub record IsSyncRefusal (rate : Rate) (streams : List Stream) (pdos : ℕ) (busy : List ℕ) : Type 0 where
  pub some : HasSynchronous streams pdos
  pub sync : ℕ
  pub is_sync : IsSync streams pdos sync
  pub shown : ShowsLong (sync_trial rate streams pdos sync) busy

-- Members for PDOs that cannot stand in the second range, none where it has no room for all; and evidence that an SDO frame with
-- a deadline fails below those that are kept.
pub record IsSdoRefusal (rate : Rate) (streams : List Stream) (pdos : ℕ) (up : List Member) (id : ℕ) (evidence : Evidence) : Type 0 where
  pub not_long : IsSyncLong rate streams pdos → ⊥
  pub failing : AreFailing second_range.least rate streams pdos up
  pub none : second_range.count < pdos → up ≡ []
  pub frame : ℕ
  pub tested : IsTested streams pdos frame
  pub its : id_at streams frame ≡ id
  pub fails : IsEvidence (trial id rate streams pdos (kept pdos (is_member up)) frame) evidence

abbrev pub IsCause : Rate → List Stream → ℕ → Cause → Type 0
IsCause rate streams pdos (Places members) = IsPlacesRefusal rate streams pdos members
IsCause rate streams pdos (Sync busy) = IsSyncRefusal rate streams pdos busy
IsCause rate streams pdos (Sdo up id evidence) = IsSdoRefusal rate streams pdos up id evidence

-- a refusal that holds
abbrev pub IsRefusal : List Stream → ℕ → Refusal → Type 0
IsRefusal streams pdos r = IsCause r.rate streams pdos r.cause
