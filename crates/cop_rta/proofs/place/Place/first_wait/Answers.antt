use Rattle.std.proofs.Common.{◌≡◌, ◌+◌, ◌-◌, arith, refl}
use Rattle.cop_rta.specs.Test.{cost_at}
use Rattle.cop_rta.specs.Placing.{place_in}
use Rattle.cop_rta.specs.Placing.{longest_of, once_each}
use Rattle.cop_rta.proofs.PlacingLemmas.{others_once, wait_from_sums}
use Rattle.cop_rta.proofs.place.Place.first_wait.Goals as goal
use Rattle.cop_rta.proofs.place.Place.first_wait.Goals.{After-self}

own_is : (c : After-self) → c.cost-own.result ≡ cost_at (place_in c.args.self.now c.args.index)
own_is c = rw c.equations.ensures at c.cost-own.ensures.value

costs_are : (c : After-self) → c.self.inside.costs ≡ once_each c.args.self.now
costs_are c = rw (← c.self.view_is) c.self.invariant.costs_are

pub overflow_sub-result : goal.overflow_sub-result
overflow_sub-result c = omega (arith, own_is c, costs_are c, others_once c.args.self.now c.args.index c.requires.index c.requires.above)

pub returns : goal.returns
returns c =
    let longest : c.self.inside.from_below ≡ longest_of c.args.self.now = rw (← c.self.view_is) c.self.invariant.blocking in
    let own = own_is (goal.at.returns c).After-self in
    let costs = costs_are (goal.at.returns c).After-self in
    wait_from_sums c.args.self.now c.args.index c.requires.index c.requires.above (c.self.inside.from_below + (c.self.inside.costs - c.cost-own.result)) (rw (longest, costs, own) refl)
