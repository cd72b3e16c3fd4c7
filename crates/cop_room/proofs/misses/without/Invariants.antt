use Rattle.cop_room.proofs.SpareLemmas.{AreWithoutSoFar}
use Rattle.cop_room.proofs.misses.without.Given as goal

abbrev pub invariant-loop-k : goal.invariant-loop-k
invariant-loop-k l = AreWithoutSoFar l.set l.index l.others l.k
