use Rattle.std.proofs.Common.{◌<◌, ◌≤◌, length}
use Rattle.std.specs.List.Sorted.{IsPermutation}
use Rattle.cop_eds.proofs.tickets.sort_parts.Given as goal

abbrev pub invariant-loop-at : goal.invariant-loop-at
invariant-loop-at l = record {
  moved : IsPermutation l.initial.tickets l.tickets;
  before : l.from < l.at;
  inside : l.from ≤ length l.tickets;
}
