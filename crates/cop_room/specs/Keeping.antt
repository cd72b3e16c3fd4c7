-- Plans that are kept or made anew, and how far a number can go.
use Rattle.std.specs.Prelude.{ℕ, ◌+◌, ◌-◌, ◌<◌, ◌≤◌, ◌⊎◌, List}
use Rattle.cop_frame.specs.declared.rates.Rate.{Rate}
use Rattle.cop_rta.specs.declared.streams.Stream.{Stream}
use Rattle.cop_rta.specs.Entries.{Entry}
use Rattle.cop_rta.specs.Test.{Passes, place_by_id}
use Rattle.cop_cert.specs.Assignments.{IsTested, NoAssignmentPasses}
use Rattle.cop_plan.specs.Values.{ArePdosHigh}
use Rattle.cop_room.specs.Changes.{AreChanged, IsHarderChange}

-- each PDO and each SDO frame with a deadline passes under the identifiers that the streams have
pub record AllStillPass (rate : Rate) (pdos : ℕ) (streams : List Stream) : Type 0 where
  pub each : (p : ℕ) → p < pdos → Passes (place_by_id streams p rate)
  pub frames : (f : ℕ) → IsTested streams pdos f → Passes (place_by_id streams f rate)

-- a stream passes if it is a PDO or such a frame
abbrev pub IsKept : Rate → ℕ → List Stream → ℕ → Type 0
IsKept rate pdos streams k = (k < pdos) ⊎ IsTested streams pdos k → Passes (place_by_id streams k rate)

-- it is not so that no assignment passes at the rate
pub record CanBePlanned (rate : Rate) (pdos : ℕ) (streams : List Stream) : Type 0 where
  pub high : ArePdosHigh streams pdos
  pub some : NoAssignmentPasses rate streams pdos → ⊥

-- changes by a number ask the more, the higher the number, or the lower
abbrev pub GetHarderUp : (ℕ → ℕ → Entry → Entry) → Type 0
GetHarderUp change = (x y : ℕ) → x ≤ y → IsHarderChange (change x) (change y)

abbrev pub GetHarderDown : (ℕ → ℕ → Entry → Entry) → Type 0
GetHarderDown change = (x y : ℕ) → x ≤ y → IsHarderChange (change y) (change x)

-- there are streams changed by a number of which something holds, or does not
pub record Holds (P : List Stream → Type 0) (change : ℕ → Entry → Entry) (streams : List Stream) : Type 0 where
  pub changed : List Stream
  pub are_changed : AreChanged change streams changed
  pub holds : P changed

pub record Fails (P : List Stream → Type 0) (change : ℕ → Entry → Entry) (streams : List Stream) : Type 0 where
  pub changed : List Stream
  pub are_changed : AreChanged change streams changed
  pub fails : P changed → ⊥

-- the greatest number up to a most with which it holds
pub record IsGreatestLimit (P : List Stream → Type 0) (change : ℕ → ℕ → Entry → Entry) (streams : List Stream) (most x : ℕ) : Type 0 where
  pub within : x ≤ most
  pub holds : Holds P (change x) streams
  pub no_further : (y : ℕ) → x < y → y ≤ most → Holds P (change y) streams → ⊥

-- the least from a least on
pub record IsLeastLimit (P : List Stream → Type 0) (change : ℕ → ℕ → Entry → Entry) (streams : List Stream) (least x : ℕ) : Type 0 where
  pub within : least ≤ x
  pub holds : Holds P (change x) streams
  pub no_further : (y : ℕ) → least ≤ y → y < x → Holds P (change y) streams → ⊥

-- it holds for a number and not for the next one, or for the greatest of the range
pub record EndsAbove (P : List Stream → Type 0) (change : ℕ → ℕ → Entry → Entry) (streams : List Stream) (most x : ℕ) : Type 0 where
  pub within : x ≤ most
  pub holds : Holds P (change x) streams
  pub next : x < most → Fails P (change (x + 1)) streams

-- it holds for a number and not for the one before, or for the least of the range
pub record EndsBelow (P : List Stream → Type 0) (change : ℕ → ℕ → Entry → Entry) (streams : List Stream) (least x : ℕ) : Type 0 where
  pub within : least ≤ x
  pub holds : Holds P (change x) streams
  pub next : least < x → Fails P (change (x - 1)) streams
