use Rattle.cop_sim.specs.Stages.{at_hand, AreCued}
use Rattle.cop_sim.proofs.turns.ask_waiting.Given as goal

abbrev pub invariant-loop-i : goal.invariant-loop-i
invariant-loop-i g l = AreCued g.B.Behaviour.offer g.B.Behaviour.agrees l.until l.streams (at_hand l.fn.stage) (at_hand l.stage) l.fn.behaviours.items l.behaviours.items l.i
