use Rattle.std.proofs.Common.{◌≡◌, ◌≤◌, ◌*◌}
use Rattle.cop_rta.specs.Sums.{sum_where}
use Rattle.cop_rta.specs.Test.{is_flagged, of_stream, cost_of}
use Rattle.cop_rta.proofs.place.costs_above.Given as goal

abbrev pub invariant-loop-k : goal.invariant-loop-k
invariant-loop-k l = record {
  sum : l.total ≡ sum_where (is_flagged l.above) (of_stream (cost_of l.fn.rate) l.set) l.k;
  most : l.total ≤ l.k * 66400;
}
