use Rattle.cop_rta.specs.Placing.{place_in}
use Rattle.cop_rta.specs.Placing.{IsSharedTime}
use Rattle.cop_rta.proofs.PlacingLemmas.{found_here, none_here}
use Rattle.cop_rta.proofs.VerdictLemmas.{pass_iff}
use Rattle.cop_rta.proofs.place.Place.judge.Goals as goal
use Rattle.cop_rta.proofs.place.Place.judge.Goals.{After-first_wait}

shared : (c : After-first_wait) → IsSharedTime c.args.self.now c.self.inside.busy
shared c = rw c.self.view_is at c.self.invariant.shared

pub judged-requires-clause-found : goal.judged-requires-clause-found
judged-requires-clause-found c = rw c.equations.ensures (found_here c.args.self.now c.args.index c.requires.index c.requires.above c.self.inside.busy (shared c))

pub judged-requires-clause-none : goal.judged-requires-clause-none
judged-requires-clause-none c = rw c.equations.ensures (none_here c.args.self.now c.args.index c.requires.index c.requires.above c.self.inside.busy (shared c))

pub returns-clause-pass : goal.returns-clause-pass
returns-clause-pass c = pass_iff (place_in c.args.self.now c.args.index) c.judged.result.verdict (rw c.equations.ensures at c.judged.ensures.judged)
