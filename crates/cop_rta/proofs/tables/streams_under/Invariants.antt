use Rattle.std.proofs.Common.{◌≡◌, ◌+◌, ◌<◌, ◌^◌, [], map, length}
use Rattle.cop_table.specs.Rows.{rows_from}
use Rattle.cop_rta.specs.Entries.{entry_of}
use Rattle.cop_rta.specs.Tables.{added}
use Rattle.cop_rta.proofs.tables.streams_under.Given as goal

abbrev pub invariant-rows : goal.invariant-rows
invariant-rows l = (l.place + length l.rows < 2 ^ 64) × (rows_from added (l.place + 1) (map entry_of l.set) l.rows ≡ rows_from added 1 [] l.initial.rows)

abbrev pub decreases-rows : goal.decreases-rows
decreases-rows l = length l.rows
