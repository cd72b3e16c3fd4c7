-- What is known of the steps that were taken, when the next one is looked at.
use Rattle.std.specs.Prelude.{◌≡◌, ℕ, ◌+◌, ◌-◌, ◌*◌, ◌≤◌, ◌<◌, List, [], ◌∷◌, Option, None, Some, Bool, true, false, suc, length, slice_index, ◌==◌}
use Rattle.cop_bus.specs.declared.steps.Step.{Step}
use Rattle.cop_bus.specs.declared.steps.Content.{Content}
use Rattle.cop_bus.specs.declared.steps.Step.TheVariants.{Queue, Start, End}
use Rattle.cop_bus.specs.Trace.{at_of, rank_of, is_queue, is_start, count_to, nth_that, step_at, bits_of}
use Rattle.cop_bus.specs.Ends.{is_end, event_in}
use Rattle.cop_rta.specs.Test.{sync_id}
use Rattle.cop_watch.specs.declared.bus.Bus.{Bus}
use Rattle.cop_watch.specs.declared.bus.Bus.TheVariants.{Idle, Sending, Joining}

-- how many instances of a stream are queued, and how many are sent
abbrev pub queues : ℕ → List Step → ℕ
queues id steps = count_to (is_queue id) steps (length steps)

abbrev pub starts : ℕ → List Step → ℕ
starts id steps = count_to (is_start id) steps (length steps)

-- how many are sent of all streams
abbrev pub is_a_start : Step → Bool
is_a_start (Queue id at event frame) = false
is_a_start (Start id at) = true
is_a_start (End id at) = false

abbrev pub sent : List Step → ℕ
sent steps = count_to is_a_start steps (length steps)

-- the moment and the rank of the last step, if there is one
abbrev pub IsNow : List Step → ℕ → ℕ → Type 0
IsNow steps at rank = (i : ℕ) → suc i ≡ length steps → (at_of (step_at steps i) ≡ at) × (rank_of (step_at steps i) ≡ rank)

-- number j of a stream's queue steps has so many bits, and comes by a moment
pub record IsQueued (steps : List Step) (now id j bits : ℕ) : Type 0 where
  pub at : ℕ
  pub event : ℕ
  pub frame : Content
  pub there : nth_that (is_queue id) j steps ≡ Some (Queue id at event frame)
  pub long : frame.bits ≡ bits
  pub by_now : at ≤ now

-- the lengths of a stream's instances that are queued and not sent, first come first
pub record IsHeld (steps : List Step) (now id : ℕ) (lengths : List ℕ) : Type 0 where
  pub count : length lengths ≡ queues id steps - starts id steps
  pub each : (j : ℕ) → j < length lengths → IsQueued steps now id (starts id steps + j) (slice_index lengths j)

-- how many SYNCs have ended
abbrev pub ends : List Step → ℕ
ends steps = count_to (is_end sync_id) steps (length steps)

-- the events of SYNC's instances that are queued and have not ended, first come first
pub record AreUnended (steps : List Step) (events : List ℕ) : Type 0 where
  pub count : length events + ends steps ≡ queues sync_id steps
  pub each : (j : ℕ) → j < length events → event_in (nth_that (is_queue sync_id) (ends steps + j) steps) ≡ Some (slice_index events j)

-- what has to come next, where a joiner was sent whose queue step did not come yet
pub record IsJoiner (tau id start : ℕ) (ahead : List Step) : Type 0 where
  pub at : ℕ
  pub event : ℕ
  pub frame : Content
  pub is : ahead ≡ Queue id at event frame ∷ []
  pub soon : at < start + tau
  pub some : 1 ≤ frame.bits

abbrev pub Awaits : ℕ → Bus → List Step → Type 0
Awaits tau Idle ahead = ahead ≡ []
Awaits tau (Sending id end) ahead = ahead ≡ []
Awaits tau (Joining id start) ahead = IsJoiner tau id start ahead

-- the transfer that runs, with what comes next
abbrev pub runs_of : ℕ → Bus → List Step → Option (ℕ × ℕ)
runs_of tau Idle ahead = None
runs_of tau (Sending id end) ahead = Some (id, end)
runs_of tau (Joining id start) [] = None
runs_of tau (Joining id start) (x ∷ ahead) = Some (id, start + bits_of (Some x) * tau)

abbrev pub joins : Bus → ℕ → Bool
joins Idle k = false
joins (Sending id end) k = false
joins (Joining id start) k = id == k
