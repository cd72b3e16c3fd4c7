-- The error frames of a log as the disturbed transfers that they tell of.
use Rattle.std.specs.Prelude.{◌≡◌, ℕ, ◌+◌, ◌*◌, ◌/◌, ◌%◌, ◌^◌, ◌≤◌, ◌<◌, ◌==◌, if◌then◌else◌, Bool, true, false, List, map, length, Any, Option, None, Some}
use Rattle.cop_rta.specs.declared.streams.Stream.{Stream}
use Rattle.cop_rta.specs.Errors.{errors_of}
use Rattle.cop_bus.specs.Run.{Instance}
use Rattle.cop_errors.specs.Errors.{Disturbance}
use Rattle.cop_lines.specs.declared.entries.Entry.{Entry}
use Rattle.cop_log.specs.declared.clocks.Clock.{Clock}
use Rattle.cop_log.specs.Log.{IsOf, entry_at, stamp, most, least, slack}

-- an identifier with bit 29 is that of an error frame
abbrev pub is_error : ℕ → Bool
is_error id = id / 2 ^ 29 % 2 == 1

-- an identifier of the bus as one of a tested set: NMT's is 001h there, and what has 001h on the bus has one that no stream can have
unfoldable pub tested_id : ℕ → ℕ
tested_id id = if id == 0 then 1 else if id == 1 then 2048 else id

-- a frame of the bus as one of a tested set that counts disturbed transfers
abbrev pub tested_frame : Entry → Entry
tested_frame e = record { line = e.line; at = e.at; id = tested_id e.id; len = e.len }

-- an error frame as one of that set: a disturbed transfer has the identifier 000h, and counts as 9 bytes
abbrev pub tested_error : Entry → Entry
tested_error e = record { line = e.line; at = e.at; id = 0; len = 9 }

-- an entry of a log as one of a set of streams, where it counts disturbed transfers as a stream, and where it does not
abbrev pub tested_entry : Option Stream → Entry → Entry
tested_entry None e = e
tested_entry (Some s) e = if is_error e.id then tested_error e else tested_frame e

-- the entries of a log as those of a set of streams
abbrev pub tested_log : List Stream → List Entry → List Entry
tested_log streams log = map (tested_entry (errors_of streams)) log

-- a disturbed transfer, with its recovery, ends at a moment
abbrev pub EndsAt : ℕ → ℕ → Disturbance → Type 0
EndsAt tau end h = h.start + h.bits * tau ≡ end

-- A run in which transfers are disturbed has a log: each error frame is of a disturbance that ends by the end of the run, and each other entry of
-- a transfer, in the order of the log; and stamps are as far apart as the ends, within the error of the clock. The log may begin and end
-- anywhere, and frames and error frames may be missing in it; but it has no more than one error frame of each disturbance.
pub record HasLogThrough (tau : ℕ) (clock : Clock) (until : ℕ) (run : List Instance) (hits : List Disturbance) (log : List Entry) : Type 0 where
  pub end : ℕ → ℕ
  pub seen : (i : ℕ) → i < length log → is_error (entry_at log i).id ≡ false → Any (IsOf tau (entry_at log i) (end i)) run
  pub disturbed : (i : ℕ) → i < length log → is_error (entry_at log i).id ≡ true → Any (EndsAt tau (end i)) hits
  pub by_end : (i : ℕ) → i < length log → end i ≤ until
  pub in_order : (i j : ℕ) → i < j → j < length log → end i < end j
  pub not_slow : (i j : ℕ) → i < j → j < length log → 1000000 * end j + most clock (stamp log i) ≤ 1000000 * end i + most clock (stamp log j) + slack clock
  pub not_fast : (i j : ℕ) → i < j → j < length log → 1000000 * end i + least clock (stamp log j) ≤ 1000000 * end j + least clock (stamp log i) + slack clock
