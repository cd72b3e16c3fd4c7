use Rattle.std.proofs.Common.{◌≡◌, drop}
use Rattle.cop_nmt.specs.States.{state_over}
use Rattle.cop_nmt.proofs.states.state_after.Given as goal

abbrev pub invariant-loop-frame : goal.invariant-loop-frame
invariant-loop-frame l = state_over l.node l.state (drop l.frame-index l.frames) ≡ state_over l.fn.node l.fn.start l.fn.frames
