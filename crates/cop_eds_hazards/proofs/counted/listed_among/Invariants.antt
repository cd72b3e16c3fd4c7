use Rattle.std.proofs.Common.{◌≡◌, ◌≤◌}
use Rattle.cop_eds_hazards.specs.Counted.{listed_among}
use Rattle.cop_eds_hazards.proofs.counted.listed_among.Given as goal

abbrev pub invariant-loop-number : goal.invariant-loop-number
invariant-loop-number l = record {
  most : l.count ≤ l.number;
  value : l.count ≡ listed_among l.eds l.first l.number;
}
