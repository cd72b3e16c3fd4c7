-- The order of a plan over both ranges, by the identifiers that it gives.
use Rattle.std.specs.Prelude.{◌≡◌, ℕ, ◌+◌, ◌-◌, ◌<◌, ◌≤◌, ◌⊎◌, Bool, true, not, nat_lt, nat_le, if◌then◌else◌, List, length, get_or, All}
use Rattle.cop_frame.specs.declared.rates.Rate.{Rate}
use Rattle.cop_rta.specs.declared.streams.Stream.{Stream}
use Rattle.cop_rta.specs.Ranges.{first_range, second_range}
use Rattle.cop_rta.specs.Streams.{AreDistinct}
use Rattle.cop_rta.specs.Test.{Passes}
use Rattle.cop_cert.specs.Assignments.{AreOutside, IsTested, AllTestedPass}
use Rattle.cop_cert.specs.Causes.{PassesBelow, kept}
use Rattle.cop_cert.specs.Sets.{trial, IsGreatestStuckSet}
use Rattle.cop_plan.specs.Fillings.{number}

-- the first streams are the PDOs: there are as many, no two streams have one identifier, and no fixed frame has one that a PDO may get
pub record HasPdos (streams : List Stream) (pdos : ℕ) : Type 0 where
  pub count : pdos ≤ length streams
  pub distinct : AreDistinct streams
  pub outside_first : AreOutside first_range streams pdos
  pub outside_second : AreOutside second_range streams pdos

-- the PDO at p and all that stand above it
abbrev pub from_place : (ℕ → ℕ) → ℕ → ℕ → Bool
from_place ids p k = nat_le (ids k) (ids p)

-- each SDO frame with a deadline passes below some PDOs
abbrev pub FramesPass : Rate → List Stream → ℕ → (ℕ → Bool) → Type 0
FramesPass rate streams pdos above = (f : ℕ) → IsTested streams pdos f → PassesBelow rate streams pdos above f

-- The PDOs of the first range: all where each such frame passes below all, else those that cannot stand in the second.
pub record IsUpper (rate : Rate) (streams : List Stream) (pdos : ℕ) (up : ℕ → Bool) : Type 0 where
  pub bounded : (k : ℕ) → up k ≡ true → k < pdos
  pub cases : (FramesPass rate streams pdos (λ k. nat_lt k pdos) × ((k : ℕ) → k < pdos → up k ≡ true))
      ⊎ ((FramesPass rate streams pdos (λ k. nat_lt k pdos) → ⊥)
      × (top : ℕ → Bool) × (pdos ≤ second_range.count → IsGreatestStuckSet second_range.least rate streams pdos (λ k. nat_lt k pdos) top) × ((k : ℕ) → k < pdos → up k ≡ kept pdos top k))

-- the least identifier of the range, and the PDOs that have one of it
abbrev pub least_of_part : Bool → ℕ
least_of_part upper = if upper then first_range.least else second_range.least

abbrev pub is_part : (ℕ → Bool) → Bool → ℕ → Bool
is_part up upper k = if upper then up k else not (up k)

-- No gap from the least identifier of each range on, each PDO and each SDO frame with a deadline passes, and of two PDOs of one range
-- with the later row above, the later row would fail in the lower one's place.
pub record IsOrderOf (rate : Rate) (streams : List Stream) (pdos : ℕ) (up : ℕ → Bool) (ids : ℕ → ℕ) : Type 0 where
  pub low : (p : ℕ) → p < pdos → least_of_part (up p) ≤ ids p
  pub high : (p : ℕ) → p < pdos → ids p < least_of_part (up p) + number pdos (is_part up (up p))
  pub distinct : (p r : ℕ) → p < pdos → r < pdos → ids p ≡ ids r → p ≡ r
  pub full : (p : ℕ) → p < pdos → (i : ℕ) → i < number pdos (is_part up (up p)) → (r : ℕ) × (r < pdos) × (up r ≡ up p) × (ids r ≡ least_of_part (up p) + i)
  pub passes : AllTestedPass rate streams pdos ids
  pub later : (p r : ℕ) → p < pdos → r < pdos → up r ≡ up p → p < r → ids r < ids p → Passes (trial (least_of_part (up p)) rate streams pdos (from_place ids p) r) → ⊥

-- the order of a plan
abbrev pub IsPlanOrder : Rate → List Stream → ℕ → (ℕ → ℕ) → Type 0
IsPlanOrder rate streams pdos ids = (up : ℕ → Bool) × IsUpper rate streams pdos up × IsOrderOf rate streams pdos up ids

-- how many PDOs have an identifier of the first range
abbrev pub in_first : ℕ → (ℕ → ℕ) → ℕ
in_first pdos ids = number pdos (λ p. nat_lt (ids p) second_range.least)

-- the identifier at a place from the top, of which so many are of the first range
abbrev pub id_at_place : ℕ → ℕ → ℕ
id_at_place first i = if nat_lt i first then first_range.least + i else second_range.least + (i - first)

-- the PDOs by priority, that with the lowest identifier first
pub record IsByPriority (pdos : ℕ) (ids : ℕ → ℕ) (order : List ℕ) : Type 0 where
  pub count : length order ≡ pdos
  pub inside : All (λ p. p < pdos) order
  pub places : (i : ℕ) → i < pdos → ids (get_or order i 0) ≡ id_at_place (in_first pdos ids) i
