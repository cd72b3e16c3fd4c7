use Rattle.cop_cert.proofs.ChainLemmas.{Chained}
use Rattle.cop_rta.specs.Test.{horizon}
use Rattle.std.proofs.Common.{◌+◌, ◌-◌}
use Rattle.cop_cert.proofs.making.chain.Given as goal

abbrev pub invariant-loop-last : goal.invariant-loop-last
invariant-loop-last g l = Chained (g.D.Demand.demand l.demand) l.from horizon l.numbers l.last

abbrev pub decreases-loop-last : goal.decreases-loop-last
decreases-loop-last g l = horizon + 1 - l.last
