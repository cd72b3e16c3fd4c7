use Rattle.std.proofs.Common.{IfSome, length, ◌≤◌}
use Rattle.cop_rta.specs.Paces.{IsRow}
use Rattle.cop_rta.specs.Placing.{IsLast}
use Rattle.cop_rta.proofs.SweepLemmas.{Swept}
use Rattle.cop_rta.proofs.sweeps.verdicts_by_id.Given as goal

abbrev pub invariant-loop-id : goal.invariant-loop-id
invariant-loop-id l = record {
  swept : Swept l.fn.rate l.set l.above.items l.verdicts.items l.id;
  row : IsRow l.set l.clock.ahead l.above.items l.row.items;
  few : length l.row.items ≤ l.id;
  last : IfSome l.last (IsLast (record { streams = l.set; flags = l.above.items; rate = l.fn.rate }));
}
