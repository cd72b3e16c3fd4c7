-- A form of the test that speaks of no least solution, and places with more streams above.
use Rattle.std.specs.Prelude.{ℕ, ◌+◌, ◌*◌, ◌<◌, ◌≤◌, ◌≡◌, Bool, true, length}
use Rattle.std.specs.Option.{ForSome}
use Rattle.cop_rta.specs.Test.{StreamPlace, is_above, busy_at, queueing_at, horizon, IsQueuedWithin, jitter_at, cost_at, period_at, deadline_at}

-- numbers that show that a stream passes: neither equation leads past them, and none is too late
pub record HasWitnesses (p : StreamPlace) : Type 0 where
  pub time : ℕ
  pub started : 1 ≤ time
  pub within : time ≤ horizon
  pub closed : busy_at p time ≤ time
  pub each : (q : ℕ) → IsQueuedWithin p time q → (w : ℕ) × (queueing_at p q w ≤ w) × ForSome (deadline_at p) (λ d. jitter_at p + w + cost_at p ≤ d + q * period_at p)

-- a place with other streams above it
abbrev pub under : StreamPlace → (ℕ → Bool) → StreamPlace
under p more = record p { above = more }

-- each stream above is above there too
abbrev pub HasMoreAbove : StreamPlace → (ℕ → Bool) → Type 0
HasMoreAbove p more = (k : ℕ) → k < length p.streams → is_above p k ≡ true → is_above (under p more) k ≡ true
