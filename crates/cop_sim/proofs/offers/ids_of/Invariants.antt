use Rattle.std.proofs.Common.{◌≡◌, map, take}
use Rattle.cop_sim.proofs.offers.ids_of.Given as goal

abbrev pub invariant-loop-stream : goal.invariant-loop-stream
invariant-loop-stream l = l.ids.items ≡ map (λ k. k.id) (take l.stream-index l.streams)
