-- Where the search for a wait may begin.
use Rattle.std.specs.Prelude.{ℕ, ◌≤◌}
use Rattle.cop_rta.specs.Test.{StreamPlace, busy_at, queueing_at}

-- a number that is not past any that the equation of instance q does not lead past: so the wait is not below it
abbrev pub IsBelowWait : StreamPlace → ℕ → ℕ → Type 0
IsBelowWait p q from = (y : ℕ) → queueing_at p q y ≤ y → from ≤ y

-- the same of the busy equation: so the busy time is not below it
abbrev pub IsBelowBusy : StreamPlace → ℕ → Type 0
IsBelowBusy p from = (y : ℕ) → 1 ≤ y → busy_at p y ≤ y → from ≤ y

-- the waits that are sought: none that meets a deadline is longer, nor one within the horizon
abbrev pub latest_wait : ℕ
latest_wait = 800000000
