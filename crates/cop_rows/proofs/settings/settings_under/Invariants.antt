use Rattle.std.proofs.Common.{◌≡◌, ◌+◌, ◌<◌, ◌^◌, length}
use Rattle.cop_table.specs.Rows.{rows_from}
use Rattle.cop_rows.specs.SettingReading.{added}
use Rattle.cop_rows.proofs.settings.settings_under.Given as goal

abbrev pub invariant-rows : goal.invariant-rows
invariant-rows l = (l.place + length l.rows < 2 ^ 64) × (rows_from added (l.place + 1) l.nodes l.rows ≡ rows_from added 1 l.initial.nodes l.initial.rows)

abbrev pub decreases-rows : goal.decreases-rows
decreases-rows l = length l.rows
