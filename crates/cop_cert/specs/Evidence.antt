-- Lists of numbers that show that a stream fails.
use Rattle.std.specs.Prelude.{◌≡◌, ℕ, ◌+◌, ◌-◌, ◌*◌, ◌<◌, ◌≤◌, ◌==◌, ◌||◌, Bool, false, List, [], ◌∷◌, map, All, AllPairs, Option, MatchOption}
use Rattle.cop_frame.specs.declared.rates.Rate.{Rate}
use Rattle.cop_rta.specs.declared.streams.Stream.{Stream}
use Rattle.cop_rta.specs.Test.{StreamPlace, busy_at, queueing_at, blocking, cost_at, jitter_at, period_at, horizon, IsQueuedWithin, IsLate}
use Rattle.cop_cert.specs.declared.refusals.Evidence.{Evidence}
use Rattle.cop_cert.specs.declared.refusals.Evidence.TheVariants.{Long, Late}
use Rattle.cop_cert.specs.declared.refusals.Member.{Member}
use Rattle.cop_cert.specs.Sets.{trial}

-- after a number the list goes on strictly upwards, each number at most the equation's value at the one before
unfoldable pub Climbs : (ℕ → ℕ) → ℕ → List ℕ → Type 0
Climbs f a [] = Unit {0}
Climbs f a (b ∷ rest) = (a < b) × (b ≤ f a) × Climbs f b rest

-- such a list, which is not empty
abbrev pub IsClimb : (ℕ → ℕ) → List ℕ → Type 0
IsClimb f [] = ⊥
IsClimb f (a ∷ rest) = Climbs f a rest

abbrev pub first_of : List ℕ → ℕ
first_of [] = 0
first_of (a ∷ rest) = a

-- the last number of a list that begins with a
unfoldable pub last_after : ℕ → List ℕ → ℕ
last_after a [] = a
last_after a (b ∷ rest) = last_after b rest

abbrev pub last_of : List ℕ → ℕ
last_of [] = 0
last_of (a ∷ rest) = last_after a rest

-- a busy list climbs by the busy equation from 1
pub record IsBusyList (p : StreamPlace) (numbers : List ℕ) : Type 0 where
  pub climbs : IsClimb (busy_at p) numbers
  pub begins : first_of numbers ≡ 1

-- where a list ends, if it is a busy list
abbrev pub IsBusyEnd : StreamPlace → List ℕ → Option ℕ → Type 0
IsBusyEnd p numbers end = MatchOption end (IsBusyList p numbers → ⊥) (λ last. IsBusyList p numbers × (last ≡ last_of numbers))

-- a queue list of instance q climbs by its queueing equation from B + q C at most
pub record IsQueueList (p : StreamPlace) (q : ℕ) (numbers : List ℕ) : Type 0 where
  pub climbs : IsClimb (queueing_at p q) numbers
  pub begins : first_of numbers ≤ blocking p + q * cost_at p

-- the busy list ends above the horizon
pub record ShowsLong (p : StreamPlace) (busy : List ℕ) : Type 0 where
  pub list : IsBusyList p busy
  pub high : horizon < last_of busy

-- the busy list reaches instance q, and the queue list ends where its response is past the deadline
pub record ShowsLate (p : StreamPlace) (q : ℕ) (busy queue : List ℕ) : Type 0 where
  pub list : IsBusyList p busy
  pub reached : IsQueuedWithin p (last_of busy) q
  pub waits : IsQueueList p q queue
  pub late : IsLate p (jitter_at p + last_of queue + cost_at p - q * period_at p)

abbrev pub busy_list_of : Evidence → List ℕ
busy_list_of (Long busy) = busy
busy_list_of (Late q busy queue) = busy

-- what shows that the stream of a place fails
abbrev pub IsEvidence : StreamPlace → Evidence → Type 0
IsEvidence p (Long busy) = ShowsLong p busy
IsEvidence p (Late q busy queue) = ShowsLate p q busy queue

-- a list of numbers as a test
abbrev pub is_listed : List ℕ → ℕ → Bool
is_listed [] k = false
is_listed (p ∷ ps) k = (p == k) || is_listed ps k

abbrev pub pdos_of : List Member → List ℕ
pdos_of members = map (λ m. m.pdo) members

-- the PDOs of members as a test
abbrev pub is_member : List Member → ℕ → Bool
is_member members = is_listed (pdos_of members)

-- members that rise, are PDOs, and have evidence in the trial of the members
pub record AreFailing (bound : ℕ) (rate : Rate) (streams : List Stream) (pdos : ℕ) (members : List Member) : Type 0 where
  pub rise : AllPairs (λ m n. m < n) (pdos_of members)
  pub inside : All (λ m. m < pdos) (pdos_of members)
  pub evidence : All (λ m. IsEvidence (trial bound rate streams pdos (is_member members) m.pdo) m.evidence) members
