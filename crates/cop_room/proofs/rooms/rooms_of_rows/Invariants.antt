use Rattle.std.proofs.Common.{◌≡◌, ◌<◌, ℕ, length, slice_get, Some}
use Rattle.cop_room.specs.declared.rows.RowRoom.{RowRoom}
use Rattle.cop_room.specs.Room.{IsRowRoom}
use Rattle.cop_room.proofs.rooms.rooms_of_rows.Given as goal

abbrev pub invariant-loop-row : goal.invariant-loop-row
invariant-loop-row l =
    (length l.rows.items ≡ l.row) × ((p : ℕ) → p < l.row → (row : RowRoom) × (slice_get l.rows.items p ≡ Some row) × IsRowRoom l.fn.rate l.set l.pdos p row)
