use Rattle.cop_figures.proofs.FrameLemmas.{AreFirst}
use Rattle.cop_figures.proofs.frames.frames_of.Given as goal

abbrev pub invariant-loop-frame : goal.invariant-loop-frame
invariant-loop-frame l = AreFirst l.set l.plan l.frame l.frames.items
