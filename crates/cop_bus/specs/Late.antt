-- Instances that are late.
use Rattle.std.specs.Prelude.{◌≡◌, ◌<◌, true, length, slice_index, slice_get, ℕ, ◌+◌, ◌*◌, List, [], ◌∷◌, Option, None, Some, Bool, false, suc, not, ◌&&◌, nat_le, if◌then◌else◌}
use Rattle.cop_rta.specs.declared.streams.Stream.{Stream}
use Rattle.cop_bus.specs.declared.steps.Step.{Step}
use Rattle.cop_bus.specs.declared.steps.Step.TheVariants.{Queue, Start, End}
use Rattle.cop_bus.specs.Trace.{step_at, is_queue, is_start, count_to, nth_that, moment_of}
use Rattle.cop_bus.specs.Judge.{id_of, stream_of}

-- a transfer of so many bits that starts there, if it does, has ended by a moment
abbrev pub has_ended : ℕ → ℕ → ℕ → Option ℕ → Bool
has_ended tau bits by None = false
has_ended tau bits by (Some s) = nat_le (s + bits * tau) by

-- it has not, by a deadline that is not after the run
abbrev pub misses : ℕ → ℕ → ℕ → ℕ → Option ℕ → Option ℕ → Bool
misses tau until event bits None start = false
misses tau until event bits (Some d) start = nat_le (event + d) until && not (has_ended tau bits (event + d) start)

-- the step queues an instance that is late
abbrev pub is_late : ℕ → ℕ → Option Stream → Option ℕ → Step → Bool
is_late tau until (Some k) start (Queue id at event frame) = misses tau until event frame.bits k.deadline start
is_late tau until (Some k) start (Start id at) = false
is_late tau until (Some k) start (End id at) = false
is_late tau until None start x = false

-- the moment at which the instance that is queued after the first i steps is sent
abbrev pub sent_at : List Step → ℕ → ℕ → Option ℕ
sent_at steps i id = moment_of (nth_that (is_start id) (count_to (is_queue id) steps i) steps)

-- the moment of a step, if it is a start
abbrev pub start_of : Option Step → Option ℕ
start_of None = None
start_of (Some (Start id at)) = Some at
start_of (Some (Queue id at event frame)) = None
start_of (Some (End id at)) = None

-- the moment of the start at a place, if one stands there
abbrev pub start_at : List Step → ℕ → Option ℕ
start_at steps place = start_of (slice_get steps place)

-- each step that queues an instance is linked to the start that sends it, and to none if none does
pub record IsSent (steps : List Step) (links : List ℕ) : Type 0 where
  pub steps_long : length links ≡ length steps
  pub moments : (a id : ℕ) → a < length steps → is_queue id (step_at steps a) ≡ true → start_at steps (slice_index links a) ≡ sent_at steps a id

-- the number, from 1, of the first step, from number i on, that queues an instance that is late
abbrev pub first_late_from : ℕ → List Stream → ℕ → List Step → ℕ → List Step → Option ℕ
first_late_from tau streams until steps i [] = None
first_late_from tau streams until steps i (x ∷ rest) =
    if is_late tau until (stream_of streams (id_of x)) (sent_at steps i (id_of x)) x then Some (suc i) else first_late_from tau streams until steps (suc i) rest

abbrev pub first_late : ℕ → List Stream → ℕ → List Step → Option ℕ
first_late tau streams until steps = first_late_from tau streams until steps 0 steps
