-- What one error on the bus takes, and the PDO that has the least time left.
use Rattle.std.specs.Prelude.{◌≡◌, ◌≤◌, ◌<◌, ℕ, ◌*◌, List, Option, Some, None, All, Contains}
use Rattle.cop_frame.specs.declared.rates.Rate.{Rate}
use Rattle.cop_frame.specs.Rate.{ticks_of}
use Rattle.cop_figures.specs.declared.times.PdoTimes.{PdoTimes}
use Rattle.cop_figures.specs.declared.errors.Tight.{Tight}
use Rattle.cop_figures.specs.Figures.{left_of}

-- what one error takes at most, in ticks of 250 ns: 31 bits until the bus is free again, and 135 of the longest frame, which is sent once more
-- (CAN: error flags, error delimiter and intermission)
abbrev pub error_cost : Rate → ℕ
error_cost rate = 166 * ticks_of rate

-- what a PDO has left
abbrev pub left : PdoTimes → ℕ
left t = left_of t.stream.deadline t.response

-- one of some PDOs, of which none has less left
pub record IsLeast (times : List PdoTimes) (t : PdoTimes) : Type 0 where
  pub here : Contains times t
  pub least : All (λ o. left t ≤ left o) times

-- the PDO with the least left is told if one error takes more than that at the planned rate
abbrev pub TellsTight : Option Rate → List PdoTimes → Option Tight → Type 0
TellsTight None times tight = tight ≡ None
TellsTight (Some rate) times None = All (λ o. error_cost rate ≤ left o) times
TellsTight (Some rate) times (Some t) = (t.cost ≡ error_cost rate) × (left t.times < error_cost rate) × IsLeast times t.times
