-- The first of many places by rank.
use Rattle.std.specs.Prelude.{◌≡◌, ◌≢◌, ℕ, zero, suc, ◌+◌, ◌*◌, ◌/◌, ◌≤◌, ◌<◌, ◌⊎◌, List, Option, None, Some, length, slice_index, slice_index_or, nat_lt, if◌then◌else◌}
use Rattle.cop_bus.specs.declared.ranking.Rank.{Rank}
use Rattle.cop_bus.specs.declared.ranking.Entrant.{Entrant}

abbrev pub rank_at : List (Option Rank) → ℕ → Option Rank
rank_at ranks i = slice_index_or ranks i None

-- r does not come after s
abbrev pub IsNotAfter : Rank → Rank → Type 0
IsNotAfter r s = (r.at < s.at) ⊎ ((r.at ≡ s.at) × (r.id ≤ s.id))

-- the key of a rank: the moment before the identifier, and none after all
abbrev pub IsKeyOf : Option Rank → ℕ → Type 0
IsKeyOf None key = key ≡ 281474976710656
IsKeyOf (Some r) key = (key ≡ r.at * 65536 + r.id) × (r.at < 4294967296) × (r.id < 65536)

-- of two entrants the one with the lower key
abbrev pub leader : Entrant → Entrant → Entrant
leader e o = if nat_lt o.key e.key then o else e

-- the key of p is not above that of q
abbrev pub Leads : List ℕ → ℕ → ℕ → Type 0
Leads keys p q = slice_index keys p ≤ slice_index keys q

-- a node names a place that leads those which the two nodes below it name
abbrev pub IsLed : List ℕ → List ℕ → ℕ → Type 0
IsLed keys leaders k = Leads keys (slice_index leaders k) (slice_index leaders (k + k)) × Leads keys (slice_index leaders k) (slice_index leaders (k + k + 1))

-- the node that stands so many nodes above another
abbrev pub above : ℕ → ℕ → ℕ
above zero n = n
above (suc j) n = above j (n / 2)

-- the node k does not stand above the node n
abbrev pub IsApart : ℕ → ℕ → Type 0
IsApart k n = (j : ℕ) → above (suc j) n ≢ k

-- the nodes that do not stand above a node are led
abbrev pub AreLedBut : List ℕ → List ℕ → ℕ → Type 0
AreLedBut keys leaders n = (k : ℕ) → 1 ≤ k → k < length keys → IsApart k n → IsLed keys leaders k

-- two nodes with the same one above them
abbrev pub AreSiblings : ℕ → ℕ → Type 0
AreSiblings n m = ((n ≡ n / 2 + n / 2) × (m ≡ n / 2 + n / 2 + 1)) ⊎ ((n ≡ n / 2 + n / 2 + 1) × (m ≡ n / 2 + n / 2))

-- a node stands above the place that it names, or is its own
abbrev pub IsOver : ℕ → List ℕ → ℕ → Type 0
IsOver places leaders k = (j : ℕ) × (above j (places + slice_index leaders k) ≡ k)

-- the nodes of so many places from one of them on: the places stand last themselves
pub record AreNodes (places from : ℕ) (leaders : List ℕ) : Type 0 where
  pub many : length leaders ≡ places + places
  pub leaves : (i : ℕ) → i < places → slice_index leaders (places + i) ≡ i
  pub within : (k : ℕ) → from ≤ k → k < places + places → slice_index leaders k < places
  pub over : (k : ℕ) → from ≤ k → k < places + places → IsOver places leaders k

-- a tournament: the root names a place with the lowest key
pub record IsTournament (leaders keys : List ℕ) : Type 0 where
  pub nodes : AreNodes (length keys) 1 leaders
  pub led : (k : ℕ) → 1 ≤ k → k < length keys → IsLed keys leaders k

-- each rank is that of its place, and has its key
pub record AreKeyed (ranks : List (Option Rank)) (keys : List ℕ) : Type 0 where
  pub many : length keys ≡ length ranks
  pub each : (i : ℕ) → i < length ranks → IsKeyOf (rank_at ranks i) (slice_index keys i)
  pub own : (i : ℕ) (r : Rank) → rank_at ranks i ≡ Some r → r.place ≡ i

-- ranks with a tournament over their keys
pub record IsRanking (ranks : List (Option Rank)) (keys leaders : List ℕ) : Type 0 where
  pub keyed : AreKeyed ranks keys
  pub tournament : IsTournament leaders keys

-- a rank of a place that comes after none
pub record IsFirst (ranks : List (Option Rank)) (r : Rank) : Type 0 where
  pub within : r.place < length ranks
  pub here : rank_at ranks r.place ≡ Some r
  pub first : (i : ℕ) (s : Rank) → rank_at ranks i ≡ Some s → IsNotAfter r s

-- the first rank, if there is one
abbrev pub IsFirstOf : List (Option Rank) → Option Rank → Type 0
IsFirstOf ranks None = (i : ℕ) → rank_at ranks i ≡ None
IsFirstOf ranks (Some r) = IsFirst ranks r
