use Rattle.std.proofs.Common.{◌≡◌, map, take}
use Rattle.cop_sim.specs.Drawing.{fresh}
use Rattle.cop_engine.proofs.seeded_runs.behaviours_of.Given as goal

abbrev pub invariant-loop-stream : goal.invariant-loop-stream
invariant-loop-stream l = l.behaviours.items ≡ map (fresh l.seed) (take l.stream-index l.streams)
