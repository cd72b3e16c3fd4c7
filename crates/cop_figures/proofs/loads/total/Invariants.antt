use Rattle.std.proofs.Common.{◌≡◌, ◌*◌, ◌^◌, ◌≤◌, take, sum_by}
use Rattle.cop_figures.specs.Loads.{share_of}
use Rattle.cop_figures.proofs.loads.total.Given as goal

abbrev pub invariant-loop-stream : goal.invariant-loop-stream
invariant-loop-stream l = record {
  sum : l.total ≡ sum_by (share_of l.rate) (take l.stream-index l.streams);
  most : l.total ≤ l.stream-index * 2 ^ 38;
}
