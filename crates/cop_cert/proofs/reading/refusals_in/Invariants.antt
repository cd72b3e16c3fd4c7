use Rattle.std.proofs.Common.{◌≡◌, ◌+◌, ◌<◌, ◌^◌, length}
use Rattle.cop_table.specs.Reading.{◌>>=◌}
use Rattle.cop_table.specs.Rows.{rows_from}
use Rattle.cop_cert.specs.Reading.{taken, ended, refusals_in}
use Rattle.cop_cert.proofs.reading.refusals_in.Given as goal

abbrev pub invariant-rows : goal.invariant-rows
invariant-rows l = record {
  small : l.place + length l.rows < 2 ^ 64;
  same : (rows_from (taken l.version) (l.place + 1) l.draft l.rows >>= ended (l.place + length l.rows)) ≡ refusals_in l.version l.initial.rows;
}

abbrev pub decreases-rows : goal.decreases-rows
decreases-rows l = length l.rows
