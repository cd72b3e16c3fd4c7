use Rattle.std.proofs.Common.{◌≡◌, ◌*◌, ◌^◌, ◌≤◌, take, sum_by}
use Rattle.cop_rta.specs.Paces.{bits_in}
use Rattle.cop_rta.proofs.rows.total.Given as goal

abbrev pub invariant-loop-pace : goal.invariant-loop-pace
invariant-loop-pace l = record {
  sum : l.total ≡ sum_by (bits_in l.time) (take l.pace-index l.row);
  most : l.total ≤ l.pace-index * 2 ^ 36;
}
