use Rattle.std.proofs.Common.{◌≡◌, ◌≤◌, List, length, false}
use Rattle.cop_bus.specs.declared.steps.Step.{Step}
use Rattle.cop_sim.specs.Sinks.{Took}
use Rattle.cop_sim.specs.Stages.{at_hand, IsAt}
use Rattle.cop_sim.proofs.simulating.simulate_over.Given as goal

abbrev pub invariant-loop-turn : goal.invariant-loop-turn
invariant-loop-turn g l =
    (g.S.Sink.has_failed l.sink ≡ false)
    × ((steps : List Step) × IsAt g.B.Behaviour.offer g.B.Behaviour.agrees l.plan l.until l.fn.behaviours.items l.behaviours.items (at_hand l.stage) steps × Took g.S.Sink.takes l.fn.sink steps l.sink × (length steps ≤ l._turn))
