use Rattle.cop_net.proofs.FixedLemmas.{KnowsFrom}
use Rattle.cop_net.proofs.frames.by_place.Given as goal

abbrev pub invariant-loop-number : goal.invariant-loop-number
invariant-loop-number l = KnowsFrom l.places l.fn.frames l.number
