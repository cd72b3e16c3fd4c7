-- The numbers of a plan that are tried, each with what it changes at a place of its range. The first place is the hardest.
use Rattle.std.specs.Prelude.{ℕ, ◌*◌, ◌-◌, ◌≤◌, List, Some, slice_get, ◌≡◌}
use Rattle.std.specs.Option.{ForSome}
use Rattle.cop_rta.specs.declared.streams.Stream.{Stream}
use Rattle.cop_rta.specs.Entries.{Entry, entry_of}
use Rattle.cop_room.specs.declared.numbers.Number.{Number}
use Rattle.cop_room.specs.declared.numbers.Number.TheVariants.{Period, Deadline, Pace, Jitter, Bytes, SyncPeriod, Periods, Times, Deadlines}
use Rattle.cop_room.specs.Changes.{at_row, with_period, with_deadline, with_pace, with_jitter, with_bytes, with_sync_period, with_periods, with_times, with_deadlines}

-- the longest jitter of a table, in microseconds, and the most bytes
abbrev pub longest_jitter : ℕ
longest_jitter = 60000000

abbrev pub most_bytes : ℕ
most_bytes = 8

-- times are in microseconds of 4 ticks; a jitter and bytes are counted from the most down
abbrev pub change_of : Number → ℕ → ℕ → Entry → Entry
change_of (Period row) x = at_row row (with_period (4 * x))
change_of (Deadline row) x = at_row row (with_deadline (4 * x))
change_of (Pace row) x = at_row row (with_pace (4 * x))
change_of (Jitter row) x = at_row row (with_jitter (4 * (longest_jitter - x)))
change_of (Bytes row) x = at_row row (with_bytes (most_bytes - x))
change_of SyncPeriod x = with_sync_period (4 * x)
change_of Periods x = with_periods x
change_of Times x = with_times x
change_of Deadlines x = with_deadlines x

-- the numbers that a stream may have: a disturbed transfer counts as 9 bytes
pub record IsInRange (e : Entry) : Type 0 where
  pub bytes : e.bytes ≤ 9
  pub period_least : 400 ≤ e.period
  pub period_most : e.period ≤ 240000000
  pub jitter : e.jitter ≤ 240000000
  pub deadline_least : ForSome e.deadline (λ d. 1 ≤ d)
  pub deadline_most : ForSome e.deadline (λ d. d ≤ 240000000)

-- changed streams are streams
abbrev pub AreInRange : (ℕ → Entry → Entry) → List Stream → Type 0
AreInRange change streams = (k : ℕ) (s : Stream) → slice_get streams k ≡ Some s → IsInRange (change k (entry_of s))
