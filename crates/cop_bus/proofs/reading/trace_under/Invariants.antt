use Rattle.std.proofs.Common.{◌≡◌, ◌+◌, ◌<◌, ◌^◌, [], length}
use Rattle.cop_bus.specs.Reading.{trace_from}
use Rattle.cop_bus.proofs.reading.trace_under.Given as goal

abbrev pub invariant-rows : goal.invariant-rows
invariant-rows l = record {
  small : l.place + length l.rows + 1 < 2 ^ 64;
  same : trace_from l.place l.steps.items l.rows ≡ trace_from 0 [] l.initial.rows;
}

abbrev pub decreases-rows : goal.decreases-rows
decreases-rows l = length l.rows
