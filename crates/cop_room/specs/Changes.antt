-- Streams of which some numbers are changed.
use Rattle.std.specs.Prelude.{◌≡◌, ℕ, ◌*◌, ◌/◌, ◌==◌, max, min, if◌then◌else◌, List, length, Some, slice_get, option_map}
use Rattle.std.specs.Int.{div_ceil}
use Rattle.cop_rta.specs.declared.streams.Stream.{Stream}
use Rattle.cop_rta.specs.Entries.{Entry, entry_of}
use Rattle.cop_rta.specs.Test.{sync_id}
use Rattle.cop_room.specs.Harder.{IsHarder}

-- the same streams in turn, each changed, by where it stands
pub record AreChanged (change : ℕ → Entry → Entry) (streams changed : List Stream) : Type 0 where
  pub as_many : length streams ≡ length changed
  pub each : (k : ℕ) (s t : Stream) → slice_get streams k ≡ Some s → slice_get changed k ≡ Some t → entry_of t ≡ change k (entry_of s)

abbrev pub with_period : ℕ → Entry → Entry
with_period x e = record e { period = x }

abbrev pub with_jitter : ℕ → Entry → Entry
with_jitter x e = record e { jitter = x }

abbrev pub with_bytes : ℕ → Entry → Entry
with_bytes x e = record e { bytes = x }

abbrev pub with_deadline : ℕ → Entry → Entry
with_deadline x e = record e { deadline = Some x }

-- a change of one row alone
abbrev pub at_row : ℕ → (Entry → Entry) → ℕ → Entry → Entry
at_row row change k e = if k == row then change e else e

-- SYNC's period, and that of each synchronous stream as many times it
abbrev pub with_sync_period : ℕ → ℕ → Entry → Entry
with_sync_period x k e = if e.id == sync_id then with_period x e else if e.every == 0 then e else with_period (e.every * x) e

-- a period, and a deadline alike
abbrev pub with_pace : ℕ → Entry → Entry
with_pace x e = record e { period = x; deadline = Some x }

-- so many thousandths of a time in whole microseconds, rounded up, and so many ticks at least
abbrev pub scaled : ℕ → ℕ → ℕ → ℕ
scaled least part time = max least (4 * div_ceil (time / 4 * part) 1000)

-- a period in so many thousandths, 100 microseconds at least: of a synchronous stream as many times what SYNC's is then
abbrev pub scaled_period : ℕ → Entry → ℕ
scaled_period part e = if e.every == 0 then scaled 400 part e.period else e.every * scaled 400 part (e.period / e.every)

-- each period in so many thousandths
abbrev pub with_periods : ℕ → ℕ → Entry → Entry
with_periods part k e = record e { period = scaled_period part e }

-- each period and each deadline, which is a microsecond at least
abbrev pub with_times : ℕ → ℕ → Entry → Entry
with_times part k e = record e { period = scaled_period part e; deadline = option_map (scaled 4 part) e.deadline }

-- a deadline in so many thousandths, 60 s at most
abbrev pub stretched : ℕ → ℕ → ℕ
stretched part time = min 240000000 (scaled 4 part time)

-- each deadline so
abbrev pub with_deadlines : ℕ → ℕ → Entry → Entry
with_deadlines part k e = record e { deadline = option_map (stretched part) e.deadline }

-- the second change of a stream asks no less than the first
abbrev pub IsHarderChange : (ℕ → Entry → Entry) → (ℕ → Entry → Entry) → Type 0
IsHarderChange change harder = (k : ℕ) (e : Entry) → IsHarder (change k e) (harder k e)
