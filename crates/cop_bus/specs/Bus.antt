-- A bus on which frames are sent, one at a time.
use Rattle.std.specs.Prelude.{◌≡◌, ℕ, ◌+◌, ◌*◌, ◌<◌, ◌≤◌, ◌⊎◌, true, false, List, All, Option, None, Some, length, take, drop, slice_get, slice_set, Bool, nat_lt}
use Rattle.std.specs.BTreeMap.{BTreeMap, get}
use Rattle.std.specs.Ordering.{nat_cmp}
use Rattle.cop_frame.specs.declared.rates.Rate.{Rate}
use Rattle.cop_frame.specs.Rate.{ticks_of}
use Rattle.cop_rta.specs.declared.streams.Stream.{Stream}
use Rattle.cop_bus.specs.declared.bus.Instance.{Instance}
use Rattle.cop_bus.specs.declared.bus.Started.{Started}
use Rattle.cop_bus.specs.declared.bus.Found.{Found}
use Rattle.cop_bus.specs.Rings.{RingValue}

-- The rate, the rings of the streams with the instances that wait, and of the transfer that runs the moment of its end
-- and its identifier.
pub record Bus : Type 0 where
  pub rate : Rate
  pub rings : List RingValue
  pub running : Option (ℕ × ℕ)

-- all instances that wait were queued by a moment
abbrev pub AreQueuedBy : List RingValue → ℕ → Type 0
AreQueuedBy rings now = All (λ r. All (λ y. y.at ≤ now) r.waiting) rings

-- each ring is found by its identifier
pub record ArePlaced (places : BTreeMap ℕ ℕ) (rings : List RingValue) : Type 0 where
  pub each : (i : ℕ) (r : RingValue) → slice_get rings i ≡ Some r → get nat_cmp places r.id ≡ Some i
  pub within : (id i : ℕ) → get nat_cmp places id ≡ Some i → i < length rings

-- the first n streams are found by their identifiers
pub record ArePlacedTo (streams : List Stream) (n : ℕ) (places : BTreeMap ℕ ℕ) : Type 0 where
  pub each : (i : ℕ) (k : Stream) → i < n → slice_get streams i ≡ Some k → get nat_cmp places k.id ≡ Some i
  pub within : (id i : ℕ) → get nat_cmp places id ≡ Some i → i < n

-- x stands at the place k of a list, and is the first of those with the lowest identifier there
pub record IsLowestAt (xs : List Instance) (k : ℕ) (x : Instance) : Type 0 where
  pub here : slice_get xs k ≡ Some x
  pub lowest : All (λ y. x.id ≤ y.id) xs
  pub first : All (λ y. x.id < y.id) (take k xs)

-- the same of the first n instances of a list, as far as they were looked at
pub record IsLowestTo (xs : List Instance) (n k : ℕ) (x : Instance) : Type 0 where
  pub here : slice_get xs k ≡ Some x
  pub lowest : All (λ y. x.id ≤ y.id) (take n xs)
  pub first : All (λ y. x.id < y.id) (take k xs)

abbrev pub IsLowestSoFar : List Instance → ℕ → Option Found → Type 0
IsLowestSoFar xs n None = n ≡ 0
IsLowestSoFar xs n (Some l) = IsLowestTo xs n l.place l.instance

abbrev pub is_lower : Instance → Option Found → Bool
is_lower x None = true
is_lower x (Some l) = nat_lt x.id l.instance.id

-- the ring without the instance that has waited longest
abbrev pub without_first : RingValue → RingValue
without_first r = record { id = r.id; waiting = drop 1 r.waiting; most = r.most }

-- the bus with these rings, on which a transfer of so many bits starts
abbrev pub sending : Bus → ℕ → ℕ → ℕ → List RingValue → Bus
sending bus now id bits rings = record { rate = bus.rate; rings = rings; running = Some (now + bits * ticks_of bus.rate, id) }

-- The instance that has waited longest in the ring of the lowest identifier is sent: no joiner has a lower one.
pub record SendsWaiting (old : Bus) (now : ℕ) (joiners : List Instance) (new : Bus) (started : Started) : Type 0 where
  pub place : ℕ
  pub ring : RingValue
  pub sent : Instance
  pub here : slice_get old.rings place ≡ Some ring
  pub first : slice_get ring.waiting 0 ≡ Some sent
  pub lowest : (j : ℕ) (r : RingValue) → slice_get old.rings j ≡ Some r → 0 < length r.waiting → ring.id ≤ r.id
  pub above_joiners : All (λ j. ring.id ≤ j.id) joiners
  pub after : new ≡ sending old now ring.id sent.frame.bits (slice_set old.rings place (without_first ring))
  pub started_is : started ≡ record { id = ring.id; joined = false }

-- A joiner is sent: it has a lower identifier than any that waits, and goes on waiting for nothing.
pub record SendsJoiner (old : Bus) (now : ℕ) (joiners : List Instance) (new : Bus) (started : Started) : Type 0 where
  pub place : ℕ
  pub sent : Instance
  pub lowest : IsLowestAt joiners place sent
  pub above_waiting : (j : ℕ) (r : RingValue) → slice_get old.rings j ≡ Some r → 0 < length r.waiting → sent.id < r.id
  pub after : new ≡ sending old now sent.id sent.frame.bits old.rings
  pub started_is : started ≡ record { id = sent.id; joined = true }

-- some instance waits
abbrev pub SomeWaits : List RingValue → Type 0
SomeWaits rings = (j : ℕ) × (r : RingValue) × (slice_get rings j ≡ Some r) × (0 < length r.waiting)

-- what a start at a moment with these joiners makes of a bus: nothing starts where nothing waits
abbrev pub Starts : Bus → ℕ → List Instance → Bus → Option Started → Type 0
Starts old now joiners new None = ((j : ℕ) (r : RingValue) → slice_get old.rings j ≡ Some r → length r.waiting ≡ 0) × (new ≡ old)
Starts old now joiners new (Some started) = SomeWaits old.rings × (SendsWaiting old now joiners new started ⊎ SendsJoiner old now joiners new started)
