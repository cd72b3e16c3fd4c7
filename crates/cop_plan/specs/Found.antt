-- What is found at one rate.
use Rattle.std.specs.Prelude.{◌≡◌, ℕ, ◌*◌, ◌≤◌, Bool, List, length, Some}
use Rattle.cop_frame.specs.declared.rates.Rate.{Rate}
use Rattle.cop_rta.specs.declared.streams.Stream.{Stream}
use Rattle.cop_rta.specs.Streams.{place_of_id}
use Rattle.cop_rta.specs.Test.{of_stream, sync_id}
use Rattle.cop_cert.specs.Assignments.{id_at, IsTested}
use Rattle.cop_cert.specs.Causes.{PassesBelow}
use Rattle.cop_plan.specs.declared.assigning.Found.{Found}
use Rattle.cop_plan.specs.declared.assigning.Found.TheVariants.{Placed, Refused}
use Rattle.cop_plan.specs.Fillings.{ArePlaced, ids_in_ranges}
use Rattle.cop_plan.specs.Caps.{CanHave}
use Rattle.cop_plan.specs.Margins.{AreLoweredTo, NoneReaches}
use Rattle.cop_plan.specs.Orders.{IsPlanOrder}
use Rattle.cop_plan.specs.Plans.{IsGreatestRefusal, members_of, is_filled}
use Rattle.cop_plan.specs.Values.{HasTested}

-- a stream that is synchronous has so many times the period of SYNC, which is there
abbrev pub IsSynced : List Stream → Stream → Type 0
IsSynced streams s = 1 ≤ s.every → (i : ℕ) × (place_of_id streams sync_id ≡ Some i) × (s.period ≡ s.every * of_stream (λ t. t.period) streams i)

-- some SDO frame with a deadline fails below some PDOs
abbrev pub FailsBelow : Rate → List Stream → ℕ → (ℕ → Bool) → Type 0
FailsBelow rate streams pdos above = (f : ℕ) × IsTested streams pdos f × (PassesBelow rate streams pdos above f → ⊥)

-- and of those that do this has the lowest identifier
pub record IsLowestFailing (rate : Rate) (streams : List Stream) (pdos : ℕ) (above : ℕ → Bool) (frame : ℕ) : Type 0 where
  pub tested : IsTested streams pdos frame
  pub fails : PassesBelow rate streams pdos above frame → ⊥
  pub lowest : (f : ℕ) → IsTested streams pdos f → (PassesBelow rate streams pdos above f → ⊥) → id_at streams frame ≤ id_at streams f

-- two fillings that give the order of a plan, or the greatest refusal of the rate
pub record ArePlanned (rate : Rate) (streams : List Stream) (pdos : ℕ) (lower upper : List ℕ) : Type 0 where
  pub placed : ArePlaced pdos lower upper
  pub order : IsPlanOrder rate streams pdos (ids_in_ranges lower upper)
  pub tested : 1 ≤ length lower → HasTested streams pdos

abbrev pub IsFound : Rate → List Stream → ℕ → Found → Type 0
IsFound rate streams pdos (Placed lower upper) = ArePlanned rate streams pdos lower.items upper.items
IsFound rate streams pdos (Refused r) = (r.rate ≡ rate) × IsGreatestRefusal streams pdos r

-- how many members of a refusal by places there are, how many trials were made at least, and whether places were filled
abbrev pub members_found : Found → ℕ
members_found (Placed lower upper) = 0
members_found (Refused r) = members_of r.cause

abbrev pub least_found : ℕ → Found → ℕ
least_found pdos (Placed lower upper) = pdos
least_found pdos (Refused r) = members_of r.cause

abbrev pub filled_found : Found → ℕ
filled_found (Placed lower upper) = 1
filled_found (Refused r) = is_filled r.cause

-- two fillings that give the order for deadlines that are less by a margin or by the stream's cap
abbrev pub ArePlannedWith : ℕ → Rate → List Stream → ℕ → List ℕ → List ℕ → Type 0
ArePlannedWith margin rate streams pdos lower upper = (lowered : List Stream) × AreLoweredTo margin rate pdos streams lowered × ArePlanned rate lowered pdos lower upper

-- no assignment reaches this margin or a greater one that some stream can have
abbrev pub NoneFrom : Rate → List Stream → ℕ → ℕ → Type 0
NoneFrom rate streams pdos margin = (more : ℕ) → margin ≤ more → CanHave rate streams pdos more → NoneReaches rate streams pdos more
