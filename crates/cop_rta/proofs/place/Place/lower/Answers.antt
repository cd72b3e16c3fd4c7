use Rattle.std.proofs.Common.{◌≡◌, ◌<◌, ◌-◌, ◌∙◌, ap, List, Bool, map, not, max, true, set, length, arith}
use Rattle.std.proofs.lemmas.Grind.{common_steps}
use Rattle.std.proofs.lemmas.List.{length-map, length-set}
use Rattle.cop_rta.specs.Test.{is_flagged, cost_at}
use Rattle.cop_rta.specs.Placing.{Flags, place_in}
use Rattle.cop_rta.specs.Placing.{longest_of, once_each}
use Rattle.cop_rta.proofs.PlacingLemmas.{others_once, turned, longest_then, costs_then}
use Rattle.cop_rta.proofs.place.Place.lower.Goals as goal
use Rattle.cop_rta.proofs.place.Place.lower.Goals.{After-max-from_below}

abbrev before : After-max-from_below → Flags
before c = record { streams = c.self.inside.at.streams; flags = map not c.self.inside.below.now; rate = c.self.inside.at.rate }

abbrev then : After-max-from_below → Flags
then c = record { streams = c.self.inside.at.streams; flags = map not (set c.self.inside.below.now c.args.index true); rate = c.self.inside.at.rate }

inside : (c : After-max-from_below) → c.args.index < length c.self.inside.at.streams
inside c = rw (← c.self.view_is) at c.requires.index

flag : (c : After-max-from_below) → is_flagged (map not c.self.inside.below.now) c.args.index ≡ true
flag c = rw (← c.self.view_is) at c.requires.above

own_is : (c : After-max-from_below) → c.cost-own.result ≡ cost_at (place_in (before c) c.args.index)
own_is c = rw (c.equations.ensures, ← c.self.view_is) at c.cost-own.ensures.value

longest : (c : After-max-from_below) → c.max-from_below.result ≡ longest_of (then c)
longest c =
    let e : c.max-from_below.result ≡ max c.self.inside.from_below c.cost-own.result = grind (arith, common_steps) in
    rw (turned c.self.inside.below.now c.args.index, e, own_is c) (longest_then (before c) c.args.index (inside c) c.self.invariant.size c.self.inside.from_below c.self.invariant.blocking)

costs : (c : After-max-from_below) → c.self.inside.costs - c.cost-own.result ≡ once_each (then c)
costs c =
    rw (turned c.self.inside.below.now c.args.index, own_is c) (costs_then (before c) c.args.index (inside c) c.self.invariant.size (flag c) c.self.inside.costs c.self.invariant.costs_are)

pub overflow_sub-costs : goal.overflow_sub-costs
overflow_sub-costs c = omega (arith, own_is c, c.self.invariant.costs_are, others_once (before c) c.args.index (inside c) (flag c))

pub shared_time-busy-requires-clause-some : goal.shared_time-busy-requires-clause-some
shared_time-busy-requires-clause-some c = rw (c.lower.ensures.below, turned c.self.inside.below.now c.args.index) (rw (← c.self.view_is) at c.requires.some)

pub shared_time-busy-requires-clause-blocking : goal.shared_time-busy-requires-clause-blocking
shared_time-busy-requires-clause-blocking c = rw (c.again-at.ensures, c.lower.ensures.below) (longest (goal.at.shared_time-busy-requires-clause-blocking c).After-max-from_below)

pub shared_time-busy-requires-clause-costs : goal.shared_time-busy-requires-clause-costs
shared_time-busy-requires-clause-costs c = rw (c.again-at.ensures, c.lower.ensures.below) (costs (goal.at.shared_time-busy-requires-clause-costs c).After-max-from_below)

pub invariant_of-self : goal.invariant_of-self
invariant_of-self c =
    let at = (goal.at.invariant_of-self c).After-max-from_below in
    rw c.lower.ensures.below (record {
      size = length-map (set c.self.inside.below.now c.args.index true) not ∙ length-set c.self.inside.below.now c.args.index true ∙ (rw length-map at c.self.invariant.size);
      blocking = longest at;
      most = omega (arith, longest at, c.max-from_below.ensures, c.self.invariant.most, c.cost-own.ensures.most);
      costs_are = costs at;
      costs_most = omega (arith, c.self.invariant.costs_most);
      is_row = rw (c.set.ensures, c.clock-ahead.ensures.ahead, c.again-at.ensures, c.lower.ensures.below) at c.lower.ensures.row;
      shared = rw (c.again-at.ensures, c.lower.ensures.below) at c.shared_time-busy.ensures;
    })

pub returns : goal.returns
returns c = rw (← c.self.view_is, c.lower.ensures.below) (ap (λ (flags : List Bool). record { streams = c.self.inside.at.streams; flags = flags; rate = c.self.inside.at.rate }) (turned c.self.inside.below.now c.args.index))
