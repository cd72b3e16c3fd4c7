-- The rules of a trace, step by step, and the first that is broken.
use Rattle.std.specs.Prelude.{◌≡◌, ℕ, ◌+◌, List, [], ◌∷◌, Option, None, Some, Bool, true, false, zero, suc, length, not, ◌==◌, ◌&&◌, ◌||◌, nat_le, nat_lt, is_some, if◌then◌else◌}
use Rattle.cop_rta.specs.declared.streams.Stream.{Stream}
use Rattle.cop_bus.specs.declared.steps.Step.{Step}
use Rattle.cop_bus.specs.declared.steps.Step.TheVariants.{Queue, Start, End}
use Rattle.cop_bus.specs.declared.faults.BusFault.{BusFault}
use Rattle.cop_bus.specs.declared.faults.BusFault.TheVariants.{Refused, Memory}
use Rattle.cop_bus.specs.declared.anchors.Anchor.{Anchor}
use Rattle.cop_bus.specs.Run.{least_bits, worst_bits, gap_of}
use Rattle.cop_bus.specs.Trace.{at_of, rank_of, is_queue, is_start, count_to, nth_that, step_at, running}
use Rattle.cop_bus.specs.Ends.{anchor_of}

abbrev pub id_of : Step → ℕ
id_of (Queue id at event frame) = id
id_of (Start id at) = id
id_of (End id at) = id

-- the stream of the set that has the identifier
abbrev pub stream_of : List Stream → ℕ → Option Stream
stream_of [] id = None
stream_of (k ∷ ks) id = if k.id == id then Some k else stream_of ks id

-- the event of the step if it queues an instance of the stream, and otherwise what was before
abbrev pub event_or : ℕ → Step → Option ℕ → Option ℕ
event_or k (Queue id at event frame) before = if id == k then Some event else before
event_or k (Start id at) before = before
event_or k (End id at) before = before

-- the event of the last of the first i steps that queues an instance of the stream
abbrev pub last_event : ℕ → List Step → ℕ → Option ℕ
last_event k steps zero = None
last_event k steps (suc i) = event_or k (step_at steps i) (last_event k steps i)

-- an instance of the stream waits after the first i steps
abbrev pub waits_after : List Step → ℕ → ℕ → Bool
waits_after steps i k = nat_lt (count_to (is_start k) steps i) (count_to (is_queue k) steps i)

-- one of some stream does
abbrev pub any_waits : List Step → ℕ → List Stream → Bool
any_waits steps i [] = false
any_waits steps i (k ∷ ks) = waits_after steps i k.id || any_waits steps i ks

-- one of some stream with a lower identifier does
abbrev pub lower_waits : List Step → ℕ → ℕ → List Stream → Bool
lower_waits steps i id [] = false
lower_waits steps i id (k ∷ ks) = (nat_lt k.id id && waits_after steps i k.id) || lower_waits steps i id ks

-- The rules, each as a test of a step x that comes after the first i.

-- 60: not after the end, and not before the step before it; at one moment ends, then queues, then starts
abbrev pub not_before : Step → Step → Bool
not_before x y = nat_lt (at_of x) (at_of y) || ((at_of x == at_of y) && nat_le (rank_of x) (rank_of y))

abbrev pub is_in_order : ℕ → List Step → ℕ → Step → Bool
is_in_order until steps zero x = nat_le (at_of x) until
is_in_order until steps (suc i) x = nat_le (at_of x) until && not_before (step_at steps i) x

-- 62: the event is a period or more after that of the stream's instance before; of a synchronous stream its SYNC is so many
-- numbers after. What hangs on no ended SYNC breaks 63 alone.
abbrev pub are_apart : ℕ → Option Anchor → Option Anchor → Bool
are_apart gap None anchor = true
are_apart gap (Some before) None = true
are_apart gap (Some before) (Some anchor) = nat_le (before.mark + gap) anchor.mark

abbrev pub is_period_later : Option Stream → Option ℕ → List Step → ℕ → Step → Bool
is_period_later (Some k) (Some before) steps i (Queue id at event frame) = are_apart (gap_of k) (anchor_of k steps i before) (anchor_of k steps i event)
is_period_later (Some k) None steps i x = true
is_period_later None before steps i x = true
is_period_later (Some k) (Some before) steps i (Start id at) = true
is_period_later (Some k) (Some before) steps i (End id at) = true

-- 63: queued from the event to the jitter after it; of a synchronous stream from its SYNC's end to the latency after that
abbrev pub is_in_time : ℕ → Option Anchor → ℕ → Bool
is_in_time jitter None at = false
is_in_time jitter (Some anchor) at = nat_le anchor.from at && nat_le at (anchor.from + jitter)

abbrev pub is_queued_in_time : Option Stream → List Step → ℕ → Step → Bool
is_queued_in_time (Some k) steps i (Queue id at event frame) = is_in_time k.jitter (anchor_of k steps i event) at
is_queued_in_time (Some k) steps i (Start id at) = true
is_queued_in_time (Some k) steps i (End id at) = true
is_queued_in_time None steps i x = true

-- 64: of a length that a frame of the stream can have, and of its number of bytes
abbrev pub is_of_length : Option Stream → Step → Bool
is_of_length (Some k) (Queue id at event frame) = nat_le (least_bits k.bytes) frame.bits && nat_le frame.bits (worst_bits k.bytes) && (frame.len == k.bytes)
is_of_length (Some k) (Start id at) = true
is_of_length (Some k) (End id at) = true
is_of_length None x = true

-- 65: no start while a transfer runs, an end only of the one that runs and at its moment, and none is missing
abbrev pub fits_transfer : Option (ℕ × ℕ) → Step → Bool
fits_transfer None (Queue id at event frame) = true
fits_transfer None (Start id at) = true
fits_transfer None (End id at) = false
fits_transfer (Some r) (Queue id at event frame) = nat_lt at r.1
fits_transfer (Some r) (Start id at) = false
fits_transfer (Some r) (End id at) = (r.0 == id) && (r.1 == at)

-- 66: at a start some instance waits, and its stream has one to send, queued less than a bit time after it
abbrev pub is_soon_queued : ℕ → ℕ → Option Step → Bool
is_soon_queued tau at None = false
is_soon_queued tau at (Some x) = nat_lt (at_of x) (at + tau)

abbrev pub has_one_to_send : ℕ → List Stream → List Step → ℕ → Step → Bool
has_one_to_send tau streams steps i (Start id at) = any_waits steps i streams && is_soon_queued tau at (nth_that (is_queue id) (count_to (is_start id) steps i) steps)
has_one_to_send tau streams steps i (Queue id at event frame) = true
has_one_to_send tau streams steps i (End id at) = true

-- 67: at a start none with a lower identifier waits
abbrev pub is_lowest : List Stream → List Step → ℕ → Step → Bool
is_lowest streams steps i (Start id at) = not (lower_waits steps i id streams)
is_lowest streams steps i (Queue id at event frame) = true
is_lowest streams steps i (End id at) = true

-- 68: none waits at a tick before the moment at which no transfer runs
abbrev pub is_not_idle : List Stream → List Step → ℕ → Option (ℕ × ℕ) → ℕ → Bool
is_not_idle streams steps zero transfer moment = true
is_not_idle streams steps (suc i) None moment = nat_le moment (at_of (step_at steps i)) || not (any_waits steps (suc i) streams)
is_not_idle streams steps (suc i) (Some r) moment = true

-- the least of the last four, by what runs and waits, that the step breaks
abbrev pub broken_in_turn : ℕ → List Stream → List Step → ℕ → Option (ℕ × ℕ) → Step → Option ℕ
broken_in_turn tau streams steps i transfer x =
    if not (fits_transfer transfer x) then Some 65 else
    if not (has_one_to_send tau streams steps i x) then Some 66 else
    if not (is_lowest streams steps i x) then Some 67 else
    if not (is_not_idle streams steps i transfer (at_of x)) then Some 68 else
    None

-- the least rule that the step breaks
abbrev pub broken_by : ℕ → List Stream → ℕ → List Step → ℕ → Step → Option ℕ
broken_by tau streams until steps i x =
    if not (is_in_order until steps i x) then Some 60 else
    if not (is_some (stream_of streams (id_of x))) then Some 61 else
    if not (is_period_later (stream_of streams (id_of x)) (last_event (id_of x) steps i) steps i x) then Some 62 else
    if not (is_queued_in_time (stream_of streams (id_of x)) steps i x) then Some 63 else
    if not (is_of_length (stream_of streams (id_of x)) x) then Some 64 else
    broken_in_turn tau streams steps i (running tau steps i) x

-- the same of the trace's end: a transfer's end can be missing, and the bus be idle
abbrev pub is_unfinished : ℕ → Option (ℕ × ℕ) → Bool
is_unfinished until None = true
is_unfinished until (Some r) = nat_lt until r.1

abbrev pub broken_at_end : ℕ → List Stream → ℕ → List Step → Option ℕ
broken_at_end tau streams until steps =
    if not (is_unfinished until (running tau steps (length steps))) then Some 65 else
    if not (is_not_idle streams steps (length steps) (running tau steps (length steps)) until) then Some 68 else
    None

-- the number of a step, from 1, with a rule that it breaks; if it breaks none, what is next
abbrev pub at_step : ℕ → Option ℕ → Option (ℕ × ℕ) → Option (ℕ × ℕ)
at_step i (Some rule) next = Some (suc i, rule)
at_step i None next = next

-- the first step, of those from number i on, that breaks a rule, and the least rule that it breaks; the end counts
-- as a step
abbrev pub first_broken_from : ℕ → List Stream → ℕ → List Step → ℕ → List Step → Option (ℕ × ℕ)
first_broken_from tau streams until steps i [] = at_step i (broken_at_end tau streams until steps) None
first_broken_from tau streams until steps i (x ∷ rest) = at_step i (broken_by tau streams until steps i x) (first_broken_from tau streams until steps (suc i) rest)

abbrev pub first_broken : ℕ → List Stream → ℕ → List Step → Option (ℕ × ℕ)
first_broken tau streams until steps = first_broken_from tau streams until steps 0 steps

-- a fault tells the step and the rule that are broken, which want of memory does not
abbrev pub IsFaultOf : Option (ℕ × ℕ) → BusFault → Type 0
IsFaultOf broken (Refused place number) = broken ≡ Some (place, number)
IsFaultOf broken Memory = Unit {0}
