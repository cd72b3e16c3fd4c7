-- The rings of streams, and the identifiers by which the first of those that wait is found.
use Rattle.std.specs.Prelude.{◌≡◌, ℕ, ◌<◌, ◌≤◌, ◌/◌, true, List, Option, None, Some, length, slice_get, nat_lt}
use Rattle.cop_rta.specs.declared.streams.Stream.{Stream}
use Rattle.cop_bus.specs.Rings.{RingValue}
use Rattle.cop_bus.specs.declared.queues.First.{First}
use Rattle.cop_bus.specs.IdSets.{holds}

-- the first n streams are found by their identifiers
abbrev pub AreListed : List Stream → ℕ → List ℕ → Type 0
AreListed streams n places = (i : ℕ) (k : Stream) → i < n → slice_get streams i ≡ Some k → slice_get places k.id ≡ Some i

-- each ring is found by its identifier, which is in the set where an instance waits
pub record IsKept (places ids : List ℕ) (i : ℕ) (r : RingValue) : Type 0 where
  pub found : slice_get places r.id ≡ Some i
  pub room : r.id / 64 < length ids
  pub small : r.id < 65536
  pub told : holds ids r.id ≡ nat_lt 0 (length r.waiting)

-- and the set has no other identifiers
pub record AreQueued (rings : List RingValue) (places ids : List ℕ) : Type 0 where
  pub each : (i : ℕ) (r : RingValue) → slice_get rings i ≡ Some r → IsKept places ids i r
  pub only : (id : ℕ) → holds ids id ≡ true → (i : ℕ) × (r : RingValue) × (slice_get rings i ≡ Some r) × (r.id ≡ id)

-- the ring with the lowest identifier in which an instance waits
pub record IsLowest (rings : List RingValue) (s : First) : Type 0 where
  pub ring : RingValue
  pub here : slice_get rings s.place ≡ Some ring
  pub its : ring.id ≡ s.id
  pub waits : 0 < length ring.waiting
  pub lowest : (j : ℕ) (r : RingValue) → slice_get rings j ≡ Some r → 0 < length r.waiting → s.id ≤ r.id

abbrev pub IsLowestOf : List RingValue → Option First → Type 0
IsLowestOf rings None = (j : ℕ) (r : RingValue) → slice_get rings j ≡ Some r → length r.waiting ≡ 0
IsLowestOf rings (Some s) = IsLowest rings s
