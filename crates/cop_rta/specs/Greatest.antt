-- The greatest response of a stream at its place, whatever its deadline, and what synchronous streams have of SYNC.
use Rattle.std.specs.Prelude.{ℕ, ◌*◌, ◌≤◌, ◌≡◌, List, All, Some}
use Rattle.cop_rta.specs.declared.streams.Stream.{Stream}
use Rattle.cop_rta.specs.Streams.{place_of_id}
use Rattle.cop_rta.specs.Test.{StreamPlace, of_stream, horizon, IsBusyTime, IsQueuedWithin, IsResponse}
pub use Rattle.cop_rta.specs.Test.{sync_id, sync_place, sync_response, ahead_of, jitter_of, greatest_response}

-- the busy time is within the horizon, and this is the greatest response of the instances of it
pub record HasGreatest (p : StreamPlace) (response : ℕ) : Type 0 where
  pub time : ℕ
  pub busy : IsBusyTime p time
  pub within : time ≤ horizon
  pub each : (q : ℕ) → IsQueuedWithin p time q → (r : ℕ) × IsResponse p q r × (r ≤ response)
  pub reached : (q : ℕ) × IsQueuedWithin p time q × IsResponse p q response

-- where a stream is synchronous SYNC is there, and the stream's period is so many times SYNC's
pub record AreSynced (streams : List Stream) : Type 0 where
  pub each : All (λ s. 1 ≤ s.every → (i : ℕ) × (place_of_id streams sync_id ≡ Some i) × (s.period ≡ s.every * of_stream (λ t. t.period) streams i)) streams
