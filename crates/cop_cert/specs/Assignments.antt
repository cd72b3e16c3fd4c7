-- Identifiers for the PDOs. The first `pdos` streams are the PDOs, and the others are fixed frames, which keep theirs.
use Rattle.std.specs.Prelude.{◌≡◌, ℕ, ◌<◌, ◌≤◌, ◌⊎◌, Bool, nat_lt, if◌then◌else◌, List, length, Some, slice_get}
use Rattle.std.specs.Option.{option_and_then}
use Rattle.cop_frame.specs.declared.rates.Rate.{Rate}
use Rattle.cop_rta.specs.declared.ranges.IdRange.{IdRange}
use Rattle.cop_rta.specs.declared.streams.Stream.{Stream}
use Rattle.cop_rta.specs.Ranges.{first_range, IsOutside, IsPermitted}
use Rattle.cop_rta.specs.Test.{place_among, StreamPlace, Passes, of_stream}

-- the least identifier of the first range: fixed frames below it are above each PDO
abbrev pub least_id : ℕ
least_id = first_range.least

-- a permitted identifier for each PDO, none twice
pub record IsAssignment (pdos : ℕ) (ids : ℕ → ℕ) : Type 0 where
  pub permitted : (p : ℕ) → p < pdos → IsPermitted pdos (ids p)
  pub distinct : (p r : ℕ) → p < pdos → r < pdos → ids p ≡ ids r → p ≡ r

abbrev pub id_at : List Stream → ℕ → ℕ
id_at streams k = of_stream (λ s. s.id) streams k

-- no fixed frame has an identifier of a range
abbrev pub AreOutside : IdRange → List Stream → ℕ → Type 0
AreOutside range streams pdos = (k : ℕ) → pdos ≤ k → k < length streams → IsOutside range (id_at streams k)

-- the identifier of stream k
abbrev pub id_under : List Stream → ℕ → (ℕ → ℕ) → ℕ → ℕ
id_under streams pdos ids k = if nat_lt k pdos then ids k else of_stream (λ s. s.id) streams k

-- lower identifiers are above
abbrev pub is_lower : List Stream → ℕ → (ℕ → ℕ) → ℕ → ℕ → Bool
is_lower streams pdos ids index k = nat_lt (id_under streams pdos ids k) (id_under streams pdos ids index)

abbrev pub place_under : Rate → List Stream → ℕ → (ℕ → ℕ) → ℕ → StreamPlace
place_under rate streams pdos ids index = place_among streams (is_lower streams pdos ids index) index rate

-- the identifiers of SDO frames, from a server and to one
abbrev pub IsSdo : ℕ → Type 0
IsSdo id = ((0x581 ≤ id) × (id ≤ 0x5FF)) ⊎ ((0x601 ≤ id) × (id ≤ 0x67F))

-- an SDO frame with a deadline, which is tested as the PDOs are
pub record IsTested (streams : List Stream) (pdos frame : ℕ) : Type 0 where
  pub fixed : pdos ≤ frame
  pub inside : frame < length streams
  pub sdo : IsSdo (id_at streams frame)
  pub deadline : (d : ℕ) × (option_and_then (λ s. s.deadline) (slice_get streams frame) ≡ Some d)

-- each PDO passes
abbrev pub AllPass : Rate → List Stream → ℕ → (ℕ → ℕ) → Type 0
AllPass rate streams pdos ids = (p : ℕ) → p < pdos → Passes (place_under rate streams pdos ids p)

-- each PDO passes, and each SDO frame with a deadline
pub record AllTestedPass (rate : Rate) (streams : List Stream) (pdos : ℕ) (ids : ℕ → ℕ) : Type 0 where
  pub each : AllPass rate streams pdos ids
  pub frames : (f : ℕ) → IsTested streams pdos f → Passes (place_under rate streams pdos ids f)

-- an assignment under which they do
abbrev pub IsPassing : Rate → List Stream → ℕ → (ℕ → ℕ) → Type 0
IsPassing rate streams pdos ids = IsAssignment pdos ids × AllTestedPass rate streams pdos ids

abbrev pub NoAssignmentPasses : Rate → List Stream → ℕ → Type 0
NoAssignmentPasses rate streams pdos = (ids : ℕ → ℕ) → IsPassing rate streams pdos ids → ⊥
