use Rattle.cop_rta.specs.Test.{place_of}
use Rattle.cop_rta.specs.Waits.{IsBelowWait}
use Rattle.cop_rta.proofs.TrialLemmas.{AreOnTimeBelow}
use Rattle.cop_rta.proofs.judging.is_on_time.Given as goal

abbrev pub invariant-loop-q : goal.invariant-loop-q
invariant-loop-q l = record {
  on_time : AreOnTimeBelow (place_of l.busy) l.q;
  from : IsBelowWait (place_of l.busy) l.q l.from;
}
