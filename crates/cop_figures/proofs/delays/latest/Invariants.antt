use Rattle.cop_rta.specs.Test.{place_of}
use Rattle.cop_figures.proofs.DelayLemmas.{NoneBelow}
use Rattle.cop_figures.proofs.delays.latest.Given as goal

abbrev pub invariant-loop-number : goal.invariant-loop-number
invariant-loop-number l = NoneBelow (place_of l.busy) l.response l.number
