-- The SYNCs of a trace whose transfers have ended, and what the instances of a trace hang on.
use Rattle.std.specs.Prelude.{◌≡◌, ℕ, zero, suc, ◌<◌, List, Option, None, Some, Bool, false, ◌==◌, if◌then◌else◌}
use Rattle.cop_rta.specs.declared.streams.Stream.{Stream}
use Rattle.cop_rta.specs.Test.{sync_id}
use Rattle.cop_bus.specs.declared.anchors.Anchor.{Anchor}
use Rattle.cop_bus.specs.declared.steps.Step.{Step}
use Rattle.cop_bus.specs.declared.steps.Step.TheVariants.{Queue, Start, End}
use Rattle.cop_bus.specs.Trace.{is_queue, count_to, nth_that, moment_of}

abbrev pub is_end : ℕ → Step → Bool
is_end k (End id at) = id == k
is_end k (Queue id at event frame) = false
is_end k (Start id at) = false

abbrev pub event_in : Option Step → Option ℕ
event_in None = None
event_in (Some (Queue id at event frame)) = Some event
event_in (Some (Start id at)) = None
event_in (Some (End id at)) = None

-- among the first i steps SYNC instance number a has ended: its event, and its end
pub record HasEnded (steps : List Step) (i number event ended : ℕ) : Type 0 where
  pub before : number < count_to (is_end sync_id) steps i
  pub event_is : event_in (nth_that (is_queue sync_id) number steps) ≡ Some event
  pub ended_is : moment_of (nth_that (is_end sync_id) number steps) ≡ Some ended

-- a SYNC whose transfer has ended: its event, and the end
pub record Ended : Type 0 where
  pub event : ℕ
  pub at : ℕ

abbrev pub ended_by : Option ℕ → Option ℕ → Option Ended
ended_by None at = None
ended_by (Some event) None = None
ended_by (Some event) (Some at) = Some (record { event = event; at = at })

-- SYNC instance number a of a trace, from 0, if it ends there
abbrev pub sync_number : List Step → ℕ → Option Ended
sync_number steps a = ended_by (event_in (nth_that (is_queue sync_id) a steps)) (moment_of (nth_that (is_end sync_id) a steps))

-- an ended SYNC as an anchor, by its number, if it has the event
abbrev pub anchor_if : ℕ → ℕ → Option Ended → Option Anchor
anchor_if event number None = None
anchor_if event number (Some y) = if y.event == event then Some (record { mark = number; from = y.at }) else None

abbrev pub or_next : Option Anchor → Option Anchor → Option Anchor
or_next None next = next
or_next (Some e) next = Some e

-- the first of the SYNCs with numbers below n that has the event
abbrev pub sync_below : List Step → ℕ → ℕ → Option Anchor
sync_below steps event zero = None
sync_below steps event (suc a) = or_next (sync_below steps event a) (anchor_if event a (sync_number steps a))

-- of those that have ended among the first i steps
abbrev pub sync_anchor : List Step → ℕ → ℕ → Option Anchor
sync_anchor steps i event = sync_below steps event (count_to (is_end sync_id) steps i)

-- what an instance of a stream with this event hangs on after the first i steps
abbrev pub anchor_of : Stream → List Step → ℕ → ℕ → Option Anchor
anchor_of k steps i event = if k.every == 0 then Some (record { mark = event; from = event }) else sync_anchor steps i event

-- one if what runs is of this identifier
abbrev pub runs_of : ℕ → Option (ℕ × ℕ) → ℕ
runs_of id None = 0
runs_of id (Some w) = if w.0 == id then 1 else 0
