-- How far each number of a plan can go, in the units of tables: microseconds and bytes.
use Rattle.std.specs.Prelude.{ℕ, ◌≡◌, ◌+◌, ◌*◌, ◌/◌, ◌-◌, ◌<◌, ◌≤◌, max, min, true, false, List, ◌∷◌, length, slice_get, Some, unwrap_or, MatchOption}
use Rattle.std.specs.Option.{option_and_then}
use Rattle.cop_frame.specs.declared.rates.Rate.{Rate}
use Rattle.cop_rta.specs.declared.streams.Stream.{Stream}
use Rattle.cop_rta.specs.Entries.{Entry, entry_of}
use Rattle.cop_rta.specs.Ranges.{IsPermitted}
use Rattle.cop_rta.specs.Streams.{has_id, place_of_id}
use Rattle.cop_rta.specs.Sums.{max_where}
use Rattle.cop_rta.specs.Test.{of_stream, sync_id}
use Rattle.cop_cert.specs.Assignments.{id_at, least_id}
use Rattle.cop_cert.specs.Causes.{HasSynchronous}
use Rattle.cop_room.specs.declared.rows.RowRoom.{RowRoom}
use Rattle.cop_room.specs.declared.rooms.Room.{Room}
use Rattle.cop_room.specs.Changes.{at_row, with_period, with_deadline, with_pace, with_jitter, with_bytes, with_sync_period, with_periods, with_times}
use Rattle.cop_room.specs.Keeping.{AllStillPass, Holds, IsLeastLimit, IsGreatestLimit}

-- where all pass with a number of the range as it is now, this is how far it can fall, down to a least; of a number that they fail with,
-- nothing is said
abbrev pub CanFall : (List Stream → Type 0) → (ℕ → ℕ → Entry → Entry) → List Stream → ℕ → ℕ → ℕ → Type 0
CanFall P change streams least now x = least ≤ now → Holds P (change now) streams → IsLeastLimit P change streams least x

-- and how far it can rise, up to a most
abbrev pub CanRise : (List Stream → Type 0) → (ℕ → ℕ → Entry → Entry) → List Stream → ℕ → ℕ → ℕ → Type 0
CanRise P change streams most now x = now ≤ most → Holds P (change now) streams → IsGreatestLimit P change streams most x

-- the numbers of a row in microseconds
abbrev pub period_now : List Stream → ℕ → ℕ
period_now streams row = of_stream (λ s. s.period) streams row / 4

abbrev pub jitter_now : List Stream → ℕ → ℕ
jitter_now streams row = of_stream (λ s. s.jitter) streams row / 4

abbrev pub deadline_now : List Stream → ℕ → ℕ
deadline_now streams row = unwrap_or (option_and_then (λ s. s.deadline) (slice_get streams row)) 0 / 4

-- its bytes, of which a frame has 8 at most
abbrev pub bytes_now : List Stream → ℕ → ℕ
bytes_now streams row = min 8 (of_stream (λ s. s.bytes) streams row)

-- how far the numbers of a row go alone, all else as it is, so that something holds. The period of a synchronous row is SYNC's
pub record GoesAlone (P : List Stream → Type 0) (streams : List Stream) (row : ℕ) (r : RowRoom) : Type 0 where
  pub period : MatchOption r.period (1 ≤ of_stream (λ s. s.every) streams row)
      (λ x. (of_stream (λ s. s.every) streams row ≡ 0)
      × CanFall P (λ y. at_row row (with_period (4 * y))) streams 100 (period_now streams row) x)
  pub jitter : CanRise P (λ y. at_row row (with_jitter (4 * y))) streams 60000000 (jitter_now streams row) r.jitter
  pub deadline : CanFall P (λ y. at_row row (with_deadline (4 * y))) streams 1 (deadline_now streams row) r.deadline
  pub bytes : CanRise P (λ y. at_row row (with_bytes y)) streams 8 (bytes_now streams row) r.bytes

-- so that all still pass under the identifiers that they have
abbrev pub IsRowRoom : Rate → List Stream → ℕ → ℕ → RowRoom → Type 0
IsRowRoom rate streams pdos row r = GoesAlone (AllStillPass rate pdos) streams row r

-- SYNC's period with all synchronous rows
pub record IsSyncRoom (rate : Rate) (streams : List Stream) (pdos x : ℕ) : Type 0 where
  pub synchronous : HasSynchronous streams pdos
  pub sync : ℕ
  pub place : place_of_id streams sync_id ≡ Some sync
  pub limit : CanFall (AllStillPass rate pdos) (λ y. with_sync_period (4 * y)) streams 100 (period_now streams sync) x

-- the identifier behind the last one of the PDOs
abbrev pub next_id : List Stream → ℕ → ℕ
next_id streams pdos = max (least_id - 1) (max_where (λ k. true) (id_at streams) pdos) + 1

-- one more PDO can have it
pub record HasPlace (streams : List Stream) (pdos : ℕ) : Type 0 where
  pub few : pdos < 512
  pub room : length streams < 1100
  pub permitted : IsPermitted (pdos + 1) (next_id streams pdos)
  pub free : has_id streams (next_id streams pdos) ≡ false

-- a PDO of 8 bytes without jitter, whose period is its deadline: 60 s here, and what is tried is put in its place
pub record IsOneMore (id : ℕ) (s : Stream) : Type 0 where
  pub is : entry_of s ≡ record { id = id; bytes = 8; period = 240000000; jitter = 0; deadline = Some 240000000; every = 0 }

-- how short its period can be, before the streams that the plan has
pub record IsMoreRoom (rate : Rate) (streams : List Stream) (pdos x : ℕ) : Type 0 where
  pub place : HasPlace streams pdos
  pub one : Stream
  pub is : IsOneMore (next_id streams pdos) one
  pub limit : IsLeastLimit (AllStillPass rate (pdos + 1)) (λ y. at_row 0 (with_pace (4 * y))) (one ∷ streams) 100 x

-- it has no place, or fails with 60 s
abbrev pub HasNoMore : Rate → List Stream → ℕ → Type 0
HasNoMore rate streams pdos = HasPlace streams pdos → (one : Stream) × IsOneMore (next_id streams pdos) one
    × (Holds (AllStillPass rate (pdos + 1)) (at_row 0 (with_pace 240000000)) (one ∷ streams) → ⊥)

-- how far the numbers of a plan go: of each row alone, of SYNC where some row is synchronous, all periods at once, all periods and deadlines
-- at once, in thousandths, and one more PDO
pub record IsRoom (rate : Rate) (streams : List Stream) (pdos : ℕ) (r : Room) : Type 0 where
  pub count : length r.rows.items ≡ pdos
  pub rows : (p : ℕ) → p < pdos → (row : RowRoom) × (slice_get r.rows.items p ≡ Some row) × IsRowRoom rate streams pdos p row
  pub sync : MatchOption r.sync (HasSynchronous streams pdos → (i : ℕ) → place_of_id streams sync_id ≡ Some i → ⊥) (IsSyncRoom rate streams pdos)
  pub periods : CanFall (AllStillPass rate pdos) with_periods streams 1 1000 r.periods
  pub clock : CanFall (AllStillPass rate pdos) with_times streams 1 1000 r.clock
  pub more : MatchOption r.more (HasNoMore rate streams pdos) (IsMoreRoom rate streams pdos)
