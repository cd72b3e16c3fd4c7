use Rattle.std.proofs.Common.{◌≡◌, ◌↔◌, drop}
use Rattle.cop_cert.specs.Evidence.{IsClimb, Climbs, last_after, last_of}
use Rattle.cop_cert.proofs.checking.climb.Given as goal

-- the whole list climbs where what is left climbs from the last number on
abbrev pub invariant-loop-next : goal.invariant-loop-next
invariant-loop-next g l = record {
  climbs : IsClimb (g.D.Demand.demand l.demand) l.numbers ↔ Climbs (g.D.Demand.demand l.demand) l.last (drop l.next-index l.rest);
  ends : last_of l.numbers ≡ last_after l.last (drop l.next-index l.rest);
}
