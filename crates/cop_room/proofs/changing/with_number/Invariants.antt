use Rattle.cop_room.specs.Numbers.{change_of}
use Rattle.cop_room.proofs.TrialLemmas.{AreChangedSoFar}
use Rattle.cop_room.proofs.changing.with_number.Given as goal

abbrev pub invariant-loop-k : goal.invariant-loop-k
invariant-loop-k l = AreChangedSoFar (change_of l.number l.place) l.set l.other l.k
