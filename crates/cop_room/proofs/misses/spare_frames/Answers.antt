use Rattle.std.proofs.Common.{arith}
use Rattle.std.proofs.lemmas.Bool.{both_ways}
use Rattle.cop_room.proofs.SpareLemmas.{one_spare, one_needed, all_spare}
use Rattle.cop_room.proofs.misses.spare_frames.Goals as goal
use Rattle.cop_room.proofs.misses.spare_frames.Goals.{then-branch+in_ok-push, else-branch}

pub loop-index-preserved : goal.loop-index-preserved
loop-index-preserved c = elim c.if-branch.branch [
  | then-branch+in_ok-push w ↦
      rw (w.frames-is, w.in_ok-push.ensures.items)
      (one_spare c.args.rate c.args.set.now c.args.pdos c.loop-index.frames.items c.loop-index.index c.loop-index.invariant (c.in_ok-is_spare.ensures.0 w.if-branch.true))
  | else-branch w ↦
      rw w.frames-is
      (one_needed c.args.rate c.args.set.now c.args.pdos c.loop-index.frames.items c.loop-index.index c.loop-index.invariant
      (λ spare. both_ways c.in_ok-is_spare.field-0 w.if-branch.false (c.in_ok-is_spare.ensures.1 spare)))
]

pub returns : goal.returns
returns c = all_spare c.args.rate c.args.set.now c.args.pdos c.loop-index.frames.items c.loop-index.index c.loop-index.invariant (omega (arith, c.loop-index-test.false, c.len-index-end.ensures))
