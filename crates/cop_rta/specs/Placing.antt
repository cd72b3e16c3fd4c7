-- What is kept of the streams above at a place, so that no trial sums it up again.
use Rattle.std.specs.Prelude.{ℕ, ◌≡◌, ◌+◌, ◌<◌, ◌≤◌, true, not, Bool, List, length, Option, IfSome, IfNone}
use Rattle.cop_frame.specs.declared.rates.Rate.{Rate}
use Rattle.cop_rta.specs.declared.streams.Stream.{Stream}
use Rattle.cop_rta.specs.declared.paces.Pace.{Pace}
use Rattle.cop_rta.specs.declared.sweeps.Last.{Last}
use Rattle.cop_rta.specs.Sums.{sum_where, max_where}
use Rattle.cop_rta.specs.Solutions.{IsLeastSolution}
use Rattle.cop_rta.specs.Test.{StreamPlace, flagged_place, is_flagged, of_stream, cost_of, cost_at, load_of, ahead_of, horizon}
use Rattle.cop_rta.specs.Waits.{IsBelowWait}
use Rattle.cop_rta.specs.Paces.{IsRow}

-- flagged streams at a rate
pub record Flags : Type 0 where
  pub streams : List Stream
  pub flags : List Bool
  pub rate : Rate

-- one stream with the flagged ones above it
abbrev pub place_in : Flags → ℕ → StreamPlace
place_in v index = flagged_place v.streams v.flags index v.rate

-- stream k is not flagged
abbrev pub is_unflagged : List Bool → ℕ → Bool
is_unflagged flags k = not (is_flagged flags k)

-- the longest transfer of those that are not flagged
abbrev pub longest_of : Flags → ℕ
longest_of v = max_where (is_unflagged v.flags) (of_stream (cost_of v.rate) v.streams) (length v.streams)

-- one transfer of each that is flagged
abbrev pub once_each : Flags → ℕ
once_each v = sum_where (is_flagged v.flags) (of_stream (cost_of v.rate) v.streams) (length v.streams)

-- the busy equation of each that is flagged: it is the same for all
unfoldable pub busy_of : Flags → ℕ → ℕ
busy_of v t = longest_of v + sum_where (is_flagged v.flags) (of_stream (load_of v.rate (ahead_of v.streams v.rate) t) v.streams) (length v.streams)

-- the busy time of each that is flagged, if it is within the horizon
pub record IsSharedTime (v : Flags) (time : Option ℕ) : Type 0 where
  pub found : IfSome time (IsLeastSolution (busy_of v) 1)
  pub within : IfSome time (λ t. t ≤ horizon)
  pub none : IfNone time ((t : ℕ) → IsLeastSolution (busy_of v) 1 t → horizon < t)

-- some stream is above
abbrev pub HasOneAbove : List Bool → Type 0
HasOneAbove flags = (k : ℕ) × (k < length flags) × (is_flagged flags k ≡ true)

pub record IsPlaced (v : Flags) (from_below costs : ℕ) (row : List Pace) (time : Option ℕ) : Type 0 where
  pub size : length v.flags ≡ length v.streams
  pub blocking : from_below ≡ longest_of v
  pub most : from_below ≤ 66400
  pub costs_are : costs ≡ once_each v
  pub costs_most : costs ≤ 73040000
  pub is_row : IsRow v.streams (ahead_of v.streams v.rate) v.flags row
  pub shared : IsSharedTime v time

-- what is known of one of the flagged streams, of which it was judged last
pub record IsLast (v : Flags) (last : Last) : Type 0 where
  pub index : ℕ
  pub inside : index < length v.streams
  pub flagged : is_flagged v.flags index ≡ true
  pub cost : last.cost ≡ cost_at (place_in v index)
  pub cost_most : last.cost ≤ 66400
  pub longest : last.from_below ≡ longest_of v
  pub shared : IsSharedTime v last.busy
  pub wait : IsBelowWait (place_in v index) 0 last.wait
  pub within : last.wait ≤ horizon
