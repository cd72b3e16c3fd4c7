-- What a rate misses a plan by.
use Rattle.std.specs.Prelude.{ℕ, ◌≡◌, ◌↔◌, ◌+◌, ◌<◌, ◌≤◌, List, length, slice_get, Contains, MatchOption}
use Rattle.cop_frame.specs.declared.rates.Rate.{Rate}
use Rattle.cop_rta.specs.declared.streams.Stream.{Stream}
use Rattle.cop_rta.specs.Test.{place_by_id}
use Rattle.cop_cert.specs.Assignments.{id_at, least_id, IsPassing}
use Rattle.cop_plan.specs.Margins.{Leaves}
use Rattle.cop_plan.specs.Orders.{IsPlanOrder}
use Rattle.cop_plan.specs.Plans.{CanAssign}
use Rattle.cop_plan.specs.Values.{HaveIds}
use Rattle.cop_room.specs.declared.misses.Stretch.{Stretch}
use Rattle.cop_room.specs.declared.misses.Miss.{Miss}
use Rattle.cop_room.specs.Harder.{past_one}
use Rattle.cop_room.specs.Changes.{AreChanged, with_deadlines}
use Rattle.cop_room.specs.Keeping.{CanBePlanned, Holds, IsLeastLimit}

-- with no deadlines that are longer in one proportion, 60 s at most, does some assignment pass
abbrev pub NoneStretches : Rate → List Stream → ℕ → Type 0
NoneStretches rate streams pdos = (part : ℕ) → Holds (CanBePlanned rate pdos) (with_deadlines part) streams → ⊥

-- the PDO passes, and none of the PDOs leaves less of its deadline
pub record IsTightest (rate : Rate) (streams : List Stream) (pdos p : ℕ) : Type 0 where
  pub inside : p < pdos
  pub left : ℕ
  pub leaves : Leaves (place_by_id streams p rate) left
  pub least : (r more : ℕ) → r < pdos → Leaves (place_by_id streams r rate) more → left ≤ more

-- these are the least thousandths of all deadlines with which some assignment passes, and this PDO is then the tightest under the identifiers of
-- the order of plans
pub record IsStretch (rate : Rate) (streams : List Stream) (pdos : ℕ) (s : Stretch) : Type 0 where
  pub least : IsLeastLimit (CanBePlanned rate pdos) with_deadlines streams 1001 s.thousandths
  pub longer : List Stream
  pub are_longer : AreChanged (with_deadlines s.thousandths) streams longer
  pub ids : ℕ → ℕ
  pub passing : IsPassing rate longer pdos ids
  pub order : IsPlanOrder rate longer pdos ids
  pub planned : List Stream
  pub have_ids : HaveIds longer pdos ids planned
  pub tightest : MatchOption s.tightest (pdos ≡ 0) (IsTightest rate planned pdos)

-- the same streams in turn but for one
pub record AreWithout (streams : List Stream) (index : ℕ) (others : List Stream) : Type 0 where
  pub as_many : length others + 1 ≡ length streams
  pub each : (k : ℕ) → k < length others → slice_get others k ≡ slice_get streams (past_one index k)

-- a fixed frame above all PDOs without which some assignment passes: SYNC only where no PDO is synchronous
pub record IsSpare (rate : Rate) (streams : List Stream) (pdos index : ℕ) : Type 0 where
  pub fixed : pdos ≤ index
  pub inside : index < length streams
  pub above : id_at streams index < least_id
  pub others : List Stream
  pub are_others : AreWithout streams index others
  pub can : CanAssign others pdos
  pub ids : ℕ → ℕ
  pub passing : IsPassing rate others pdos ids

-- how much longer all deadlines have to be, and the frames of which one can be left out
pub record IsMiss (rate : Rate) (streams : List Stream) (pdos : ℕ) (m : Miss) : Type 0 where
  pub rate_is : m.rate ≡ rate
  pub stretch : MatchOption m.stretch (NoneStretches rate streams pdos) (IsStretch rate streams pdos)
  pub spare : (index : ℕ) → Contains m.spare.items index ↔ IsSpare rate streams pdos index
