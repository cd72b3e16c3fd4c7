-- The streams that are tested where transfers may be disturbed: those of the bus, and disturbed transfers as one more stream above all. NMT
-- counts as 001h there, so that 000h is free for them.
use Rattle.std.specs.Prelude.{◌≢◌, Bool, ℕ, ◌≤◌, ◌==◌, ◌&&◌, not, is_some, if◌then◌else◌, List, [], ◌∷◌, ◌++◌, map, All, Option, None, Some}
use Rattle.cop_rta.specs.declared.streams.Stream.{Stream}
use Rattle.cop_rta.specs.declared.errors.Errors.{Errors}
use Rattle.cop_rta.specs.UpLemmas.{up_id, up_id-small, up_id-high, down_id, down_id-small, down_id-high, low_id, nine, no_deadline, none_every, not_synced}

-- the identifier that NMT gets in the tested set is free
abbrev pub HasNoOne : List Stream → Type 0
HasNoOne streams = All (λ k. k.id ≢ 1) streams

-- a stream of the bus as one of the tested set
abbrev pub up : Stream → Stream
up s = record {
  id = up_id s.id;
  bytes = s.bytes;
  period = s.period;
  jitter = s.jitter;
  deadline = s.deadline;
  every = s.every;
  id_in_range = up_id-small s.id s.id_in_range;
  bytes_in_range = s.bytes_in_range;
  period_least = s.period_least;
  period_most = s.period_most;
  jitter_in_range = s.jitter_in_range;
  deadline_least = s.deadline_least;
  deadline_most = s.deadline_most;
  every_most = s.every_most;
  synchronous_id = λ l. up_id-high s.id (s.synchronous_id l);
}

-- a stream of the tested set as it is on the bus
abbrev pub down : Stream → Stream
down s = record {
  id = down_id s.id;
  bytes = s.bytes;
  period = s.period;
  jitter = s.jitter;
  deadline = s.deadline;
  every = s.every;
  id_in_range = down_id-small s.id s.id_in_range;
  bytes_in_range = s.bytes_in_range;
  period_least = s.period_least;
  period_most = s.period_most;
  jitter_in_range = s.jitter_in_range;
  deadline_least = s.deadline_least;
  deadline_most = s.deadline_most;
  every_most = s.every_most;
  synchronous_id = λ l. down_id-high s.id (s.synchronous_id l);
}

-- disturbed transfers as a stream: each counts as a frame of 9 bytes, which takes 1 to 166 bits
abbrev pub errors_stream : Errors → Stream
errors_stream e = record {
  id = 0;
  bytes = 9;
  period = e.period;
  jitter = e.jitter;
  deadline = None;
  every = 0;
  id_in_range = low_id;
  bytes_in_range = nine;
  period_least = e.period_least;
  period_most = e.period_most;
  jitter_in_range = e.jitter_in_range;
  deadline_least = no_deadline (λ d. 1 ≤ d);
  deadline_most = no_deadline (λ d. d ≤ 240000000);
  every_most = none_every;
  synchronous_id = not_synced;
}

-- the streams that are tested
abbrev pub tested : Option Errors → List Stream → List Stream
tested None streams = streams
tested (Some e) streams = map up streams ++ (errors_stream e ∷ [])

-- whether a stream is that of disturbed transfers
abbrev pub is_errors : Stream → Bool
is_errors s = (s.id == 0) && (s.bytes == 9) && not (is_some s.deadline) && (s.every == 0)

-- how rare the disturbed transfers of a stream are
abbrev pub rarity : Stream → Errors
rarity s = record { period = s.period; jitter = s.jitter; period_least = s.period_least; period_most = s.period_most; jitter_in_range = s.jitter_in_range }

abbrev pub errors_in : Stream → Option Stream
errors_in s = if is_errors s then Some s else None

-- the stream of disturbed transfers in a tested set, if it counts them: it is the last
unfoldable pub errors_of : List Stream → Option Stream
errors_of [] = None
errors_of (s ∷ []) = errors_in s
errors_of (s ∷ t ∷ streams) = errors_of (t ∷ streams)

-- all but the last, as they are on the bus
unfoldable pub all_but_errors : List Stream → List Stream
all_but_errors [] = []
all_but_errors (s ∷ []) = []
all_but_errors (s ∷ t ∷ streams) = down s ∷ all_but_errors (t ∷ streams)

-- the streams of the bus that are in a tested set
abbrev pub bus_of : List Stream → List Stream
bus_of streams = if is_some (errors_of streams) then all_but_errors streams else streams
