-- Plans whose times are whole microseconds: they pass with their own numbers, so each limit holds with no premise.
use Rattle.std.specs.Prelude.{ℕ, ◌≡◌, ◌*◌, ◌/◌, ◌<◌, ◌≤◌, List, length, slice_get, Some, MatchOption}
use Rattle.std.specs.Option.{ForSome}
use Rattle.cop_frame.specs.declared.rates.Rate.{Rate}
use Rattle.cop_rta.specs.declared.streams.Stream.{Stream}
use Rattle.cop_rta.specs.Entries.{Entry, entry_of}
use Rattle.cop_rta.specs.Streams.{place_of_id}
use Rattle.cop_rta.specs.Test.{of_stream, sync_id}
use Rattle.cop_cert.specs.Causes.{HasSynchronous}
use Rattle.cop_room.specs.declared.rows.RowRoom.{RowRoom}
use Rattle.cop_room.specs.declared.rooms.Room.{Room}
use Rattle.cop_room.specs.Changes.{at_row, with_period, with_deadline, with_jitter, with_bytes, with_sync_period, with_periods, with_times}
use Rattle.cop_room.specs.Keeping.{AllStillPass, IsLeastLimit, IsGreatestLimit}
use Rattle.cop_room.specs.Room.{IsMoreRoom, HasNoMore}

-- a time in ticks is a whole number of microseconds
abbrev pub IsWhole : ℕ → Type 0
IsWhole time = 4 * (time / 4) ≡ time

pub record IsInMicroseconds (e : Entry) : Type 0 where
  pub period : IsWhole e.period
  pub jitter : IsWhole e.jitter
  pub deadline : ForSome e.deadline IsWhole

abbrev pub AreInMicroseconds : List Stream → Type 0
AreInMicroseconds streams = (k : ℕ) (s : Stream) → slice_get streams k ≡ Some s → IsInMicroseconds (entry_of s)

-- how far the numbers of a row go alone, so that something holds. The period of a synchronous row is SYNC's
pub record AreLimitsAlone (P : List Stream → Type 0) (streams : List Stream) (row : ℕ) (r : RowRoom) : Type 0 where
  pub period : MatchOption r.period (1 ≤ of_stream (λ s. s.every) streams row) (λ x. IsLeastLimit P (λ y. at_row row (with_period (4 * y))) streams 100 x)
  pub jitter : IsGreatestLimit P (λ y. at_row row (with_jitter (4 * y))) streams 60000000 r.jitter
  pub deadline : IsLeastLimit P (λ y. at_row row (with_deadline (4 * y))) streams 1 r.deadline
  pub bytes : IsGreatestLimit P (λ y. at_row row (with_bytes y)) streams 8 r.bytes

-- so that all still pass under the identifiers that they have
abbrev pub AreRowLimits : Rate → List Stream → ℕ → ℕ → RowRoom → Type 0
AreRowLimits rate streams pdos row r = AreLimitsAlone (AllStillPass rate pdos) streams row r

-- SYNC's period with all synchronous rows
pub record IsSyncLimit (rate : Rate) (streams : List Stream) (pdos x : ℕ) : Type 0 where
  pub sync : ℕ
  pub place : place_of_id streams sync_id ≡ Some sync
  pub limit : IsLeastLimit (AllStillPass rate pdos) (λ y. with_sync_period (4 * y)) streams 100 x

-- how far the numbers of a plan go, each of them a limit
pub record AreLimits (rate : Rate) (streams : List Stream) (pdos : ℕ) (r : Room) : Type 0 where
  pub count : length r.rows.items ≡ pdos
  pub rows : (p : ℕ) → p < pdos → (row : RowRoom) × (slice_get r.rows.items p ≡ Some row) × AreRowLimits rate streams pdos p row
  pub sync : MatchOption r.sync (HasSynchronous streams pdos → ⊥) (IsSyncLimit rate streams pdos)
  pub periods : IsLeastLimit (AllStillPass rate pdos) with_periods streams 1 r.periods
  pub clock : IsLeastLimit (AllStillPass rate pdos) with_times streams 1 r.clock
  pub more : MatchOption r.more (HasNoMore rate streams pdos) (IsMoreRoom rate streams pdos)
