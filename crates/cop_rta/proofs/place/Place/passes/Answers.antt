use Rattle.cop_rta.specs.Placing.{IsSharedTime}
use Rattle.cop_rta.proofs.PlacingLemmas.{found_here, none_here}
use Rattle.cop_rta.proofs.place.Place.passes.Goals as goal
use Rattle.cop_rta.proofs.place.Place.passes.Goals.{After-first_wait}

shared : (c : After-first_wait) → IsSharedTime c.args.self.now c.self.inside.busy
shared c = rw c.self.view_is at c.self.invariant.shared

pub is_on_time-requires-clause-found : goal.is_on_time-requires-clause-found
is_on_time-requires-clause-found c = rw c.equations.ensures (found_here c.args.self.now c.args.index c.requires.index c.requires.above c.self.inside.busy (shared c))

pub is_on_time-requires-clause-none : goal.is_on_time-requires-clause-none
is_on_time-requires-clause-none c = rw c.equations.ensures (none_here c.args.self.now c.args.index c.requires.index c.requires.above c.self.inside.busy (shared c))
