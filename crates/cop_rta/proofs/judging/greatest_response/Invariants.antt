use Rattle.std.proofs.Common.{◌≡◌}
use Rattle.cop_rta.specs.Test.{place_of}
use Rattle.cop_rta.specs.Waits.{IsBelowWait}
use Rattle.cop_rta.proofs.GreatestLemmas.{greatest_of}
use Rattle.cop_rta.proofs.judging.greatest_response.Given as goal

abbrev pub invariant-loop-number : goal.invariant-loop-number
invariant-loop-number l = record {
  greatest : l.greatest ≡ greatest_of (place_of l.busy) l.time l.number;
  from : IsBelowWait (place_of l.busy) l.number l.start;
}
