use Rattle.std.proofs.Common.{◌≤◌, ◌-◌, length}
use Rattle.cop_eds.specs.Tickets.{Surround}
use Rattle.cop_eds.proofs.tickets.count_between.Given as goal

abbrev pub invariant-loop-low : goal.invariant-loop-low
invariant-loop-low l = record {
  around : Surround l.word l.tickets l.low l.high;
  order : l.low ≤ l.high;
  bound : l.high ≤ length l.tickets;
}

abbrev pub decreases-loop-low : goal.decreases-loop-low
decreases-loop-low l = l.high - l.low
