-- What a log of the bus says of the runs that it may be of. Moments of a run are in ticks of 250 ns, those of a log in microseconds.
use Rattle.std.specs.Prelude.{◌≡◌, ◌≢◌, ℕ, ◌+◌, ◌-◌, ◌*◌, ◌≤◌, ◌<◌, List, Option, Some, None, zero, suc, [], ◌∷◌, length, slice_index_or, slice_get, ◌==◌, Any, All, if◌then◌else◌}
use Rattle.cop_frame.specs.declared.rates.Rate.{Rate}
use Rattle.cop_frame.specs.Rate.{ticks_of}
use Rattle.cop_rta.specs.declared.streams.Stream.{Stream}
use Rattle.cop_rta.specs.Test.{place_by_id}
use Rattle.cop_rta.specs.Verdict.{PassesBy}
use Rattle.cop_rta.specs.Greatest.{AreSynced}
use Rattle.cop_bus.specs.Run.{Instance, IsLegal, IsObeying, least_bits}
use Rattle.cop_lines.specs.declared.entries.Entry.{Entry}
use Rattle.cop_log.specs.declared.clocks.Clock.{Clock}
use Rattle.cop_log.specs.declared.findings.Finding.{Finding}
use Rattle.cop_log.specs.declared.findings.Finding.TheVariants.{Unknown, Length, Soon, Crowded, Fallen}

abbrev pub no_entry : Entry
no_entry = record { line = 0; at = 0; id = 0; len = 0 }

abbrev pub entry_at : List Entry → ℕ → Entry
entry_at log i = slice_index_or log i no_entry

-- An entry is of an instance whose transfer ends at a moment.
pub record IsOf (tau : ℕ) (entry : Entry) (end : ℕ) (y : Instance) : Type 0 where
  pub same_id : y.id ≡ entry.id
  pub same_bytes : y.len ≡ entry.len
  pub ended : (s : ℕ) × (y.start ≡ Some s) × (s + y.bits * tau ≡ end)

-- In millionths of a tick: the most that may have passed up to a stamp of a clock that may be slow by so many parts in a million,
-- and the least, by one that may be fast by so many.
abbrev pub most : Clock → ℕ → ℕ
most clock at = 4 * at * (1000000 + clock.drift)

abbrev pub least : Clock → ℕ → ℕ
least clock at = 4 * at * (1000000 - clock.drift)

-- the error of a distance of two stamps
abbrev pub slack : Clock → ℕ
slack clock = 4000000 * clock.error

-- the stamp of an entry
abbrev pub stamp : List Entry → ℕ → ℕ
stamp log i = (entry_at log i).at

-- A run has a log: each entry is of a transfer that ends by the end of the run, in the order of the log, and stamps are as far
-- apart as the ends, within the error of the clock. The log may begin and end anywhere, transfers may be missing in it, and where
-- its clock begins does not matter.
pub record HasLog (tau : ℕ) (clock : Clock) (until : ℕ) (run : List Instance) (log : List Entry) : Type 0 where
  pub end : ℕ → ℕ
  pub seen : (i : ℕ) → i < length log → Any (IsOf tau (entry_at log i) (end i)) run
  pub by_end : (i : ℕ) → i < length log → end i ≤ until
  pub in_order : (i j : ℕ) → i < j → j < length log → end i < end j
  pub not_slow : (i j : ℕ) → i < j → j < length log → 1000000 * end j + most clock (stamp log i) ≤ 1000000 * end i + most clock (stamp log j) + slack clock
  pub not_fast : (i j : ℕ) → i < j → j < length log → 1000000 * end i + least clock (stamp log j) ≤ 1000000 * end j + least clock (stamp log i) + slack clock

-- A log that keeps time: its entries are of transfers that end by the end of the run, in the order of their ends, and the stamp of
-- each is the microsecond in which its transfer ends.
pub record IsKept (tau until : ℕ) (run : List Instance) (log : List Entry) : Type 0 where
  pub end : ℕ → ℕ
  pub seen : (i : ℕ) → i < length log → Any (IsOf tau (entry_at log i) (end i)) run
  pub by_end : (i : ℕ) → i < length log → end i ≤ until
  pub in_order : (i j : ℕ) → i < j → j < length log → end i < end j
  pub stamped : (i : ℕ) → i < length log → (4 * stamp log i ≤ end i) × (end i < 4 * stamp log i + 4)

-- What a log is watched for: the streams at a rate, the bound of each stream's response where there is one, and the clock of the log.
pub record Terms : Type 0 where
  pub rate : Rate
  pub streams : List Stream
  pub bounds : List (Option ℕ)
  pub clock : Clock

-- what is known of the bounds: synchronous streams keep pace with SYNC, and each bound is the greatest response of a stream that passes
-- the response-time test (Davis et al. 2007, section 4)
pub record AreBounded (t : Terms) : Type 0 where
  pub synced : AreSynced t.streams
  pub passes : (p d : ℕ) → slice_index_or t.bounds p None ≡ Some d → PassesBy (place_by_id t.streams p t.rate) d

-- a legal run in which all streams obey, and which has the log
pub record IsRunWith (t : Terms) (until : ℕ) (run : List Instance) (log : List Entry) : Type 0 where
  pub legal : IsLegal (ticks_of t.rate) t.streams until run
  pub obeying : All (IsObeying (ticks_of t.rate) until run) t.streams
  pub has : HasLog (ticks_of t.rate) t.clock until run log

-- how many of the first i entries are of a stream
abbrev pub count_of : ℕ → List Entry → ℕ → ℕ
count_of id [] i = 0
count_of id (e ∷ es) zero = 0
count_of id (e ∷ es) (suc i) = (if e.id == id then 1 else 0) + count_of id es i

-- the least ticks that the first i entries' transfers take
abbrev pub least_of : ℕ → List Entry → ℕ → ℕ
least_of tau [] i = 0
least_of tau (e ∷ es) zero = 0
least_of tau (e ∷ es) (suc i) = least_bits e.len * tau + least_of tau es i

-- What is known of a stream where its entries are watched: the ticks of a bit, the bound of its response, the clock of the log.
pub record Lane : Type 0 where
  pub stream : Stream
  pub tau : ℕ
  pub bound : ℕ
  pub clock : Clock

-- n instances apart is too near: the least time from the end of the first to that of the second is n periods, less the time by
-- which the first may have ended late, and more that in which the second ends at the soonest after its event (a frame may join
-- up to a bit time before it is queued).
abbrev pub IsNear : Lane → ℕ → ℕ → ℕ → Type 0
IsNear k from to n =
    most k.clock to + (slack k.clock + 1000000 * (k.bound + k.tau))
    < most k.clock from + 1000000 * (n * k.stream.period + (least_bits k.stream.bytes * k.tau + 1))

-- Two entries of a stream come too soon one after the other: n of it come after the first, up to the second.
pub record IsSoon (k : Lane) (log : List Entry) (i j n : ℕ) : Type 0 where
  pub ordered : i < j
  pub within : j < length log
  pub first : (entry_at log i).id ≡ k.stream.id
  pub second : (entry_at log j).id ≡ k.stream.id
  pub counted : n + count_of k.stream.id log i ≡ count_of k.stream.id log j
  pub near : IsNear k (stamp log i) (stamp log j) n

-- the stream at a place that has a bound, as a lane
pub record IsLaneOf (t : Terms) (p : ℕ) (k : Lane) : Type 0 where
  pub there : slice_get t.streams p ≡ Some k.stream
  pub bound : slice_index_or t.bounds p None ≡ Some k.bound
  pub tau : k.tau ≡ ticks_of t.rate
  pub same_clock : k.clock ≡ t.clock

-- the transfers after an entry, up to another one, take at least so many ticks, and do not fit between them
abbrev pub IsFull : Clock → ℕ → ℕ → ℕ → Type 0
IsFull clock from to ticks = most clock to + slack clock < most clock from + 1000000 * ticks

pub record IsCrowded (tau : ℕ) (clock : Clock) (log : List Entry) (i j ticks : ℕ) : Type 0 where
  pub ordered : i < j
  pub within : j < length log
  pub counted : ticks + least_of tau log (suc i) ≡ least_of tau log (suc j)
  pub full : IsFull clock (stamp log i) (stamp log j) ticks

-- a stamp is lower than an earlier one, by more than both may be wrong
abbrev pub IsLower : Clock → ℕ → ℕ → Type 0
IsLower clock from to = most clock to + slack clock < most clock from

-- the clock falls from an entry to another one
pub record IsFallen (clock : Clock) (log : List Entry) (i j : ℕ) : Type 0 where
  pub ordered : i < j
  pub within : j < length log
  pub lower : IsLower clock (stamp log i) (stamp log j)

-- an entry's identifier is none of the streams'; or a stream has it, and another number of bytes
abbrev pub IsStrange : List Stream → Entry → Type 0
IsStrange streams e = All (λ k. k.id ≢ e.id) streams

abbrev pub IsMisshapen : List Stream → Entry → Type 0
IsMisshapen streams e = Any (λ k. (k.id ≡ e.id) × (k.bytes ≢ e.len)) streams

-- What a finding says of the log is there to be seen.
abbrev pub IsEvidence : Terms → List Entry → Finding → Type 0
IsEvidence t log (Unknown i) = (i < length log) × IsStrange t.streams (entry_at log i)
IsEvidence t log (Length i) = (i < length log) × IsMisshapen t.streams (entry_at log i)
IsEvidence t log (Soon i j n) = (p : ℕ) × (k : Lane) × IsLaneOf t p k × IsSoon k log i j n
IsEvidence t log (Crowded i j) = (ticks : ℕ) × IsCrowded (ticks_of t.rate) t.clock log i j ticks
IsEvidence t log (Fallen i j) = IsFallen t.clock log i j

-- the number of the last entry of which a finding speaks
abbrev pub last_of : Finding → ℕ
last_of (Unknown i) = i
last_of (Length i) = i
last_of (Soon i j n) = j
last_of (Crowded i j) = j
last_of (Fallen i j) = j

-- Everything that is evident was looked for: what was found is evident, and where nothing was, nothing is.
pub record IsAnswer (t : Terms) (log : List Entry) (found : List Finding) : Type 0 where
  pub evident : All (IsEvidence t log) found
  pub clean : found ≡ [] → (finding : Finding) → IsEvidence t log finding → ⊥
  -- no false accusation
  pub innocent : (until : ℕ) (run : List Instance) → AreBounded t → IsRunWith t until run log → found ≡ []
