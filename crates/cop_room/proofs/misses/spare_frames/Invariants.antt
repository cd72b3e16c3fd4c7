use Rattle.cop_room.proofs.SpareLemmas.{AreSpareSoFar}
use Rattle.cop_room.proofs.misses.spare_frames.Given as goal

abbrev pub invariant-loop-index : goal.invariant-loop-index
invariant-loop-index l = AreSpareSoFar l.fn.rate l.fn.set l.fn.pdos l.frames.items l.index
