use Rattle.std.proofs.Common.{◌+◌, ◌-◌}
use Rattle.cop_rta.proofs.Climb.{Climbs, Stepped}
use Rattle.cop_rta.proofs.solve.seek_least.Given as goal

abbrev pub invariant-loop-time : goal.invariant-loop-time
invariant-loop-time g l = record {
  climb : Climbs (g.D.Demand.demand l.demand) l.from l.time;
  steps : Stepped (g.D.Demand.demand l.demand) l.from l.limit l.steps l.time;
}

abbrev pub decreases-loop-time : goal.decreases-loop-time
decreases-loop-time g l = l.limit + 1 - l.time
