use Rattle.std.proofs.Common.{◌≡◌, ◌<◌, true, length, arith}
use Rattle.cop_rta.specs.Placing.{Flags}
use Rattle.cop_rta.specs.Paces.{flags_above}
use Rattle.cop_rta.specs.Test.{is_flagged}
use Rattle.cop_rta.proofs.PlacingLemmas.{busy_from, others_once, cost_pos_at, shared_of}
use Rattle.cop_rta.proofs.place.shared_time.Goals as goal
use Rattle.cop_rta.proofs.place.shared_time.Goals.{After-first_above-index}

abbrev here : After-first_above-index → Flags
here c = record { streams = c.args.at.now.streams; flags = flags_above true c.args.below.now; rate = c.args.at.now.rate }

inside : (c : After-first_above-index) → c.first_above-index.result < length c.args.at.now.streams
inside c = omega (arith, c.first_above-index.ensures.inside, rw c.set-set.ensures at c.len.ensures)

above : (c : After-first_above-index) → is_flagged (flags_above true c.args.below.now) c.first_above-index.result ≡ true
above c = rw c.unflagged-above.ensures at c.first_above-index.ensures.above

pub time_from-requires-clause-started : goal.time_from-requires-clause-started
time_from-requires-clause-started c =
    let at = (goal.at.time_from-requires-clause-started c).After-first_above-index in
    omega (arith, c.requires.costs, others_once (here at) c.first_above-index.result (inside at) (above at), cost_pos_at (here at) c.first_above-index.result (inside at) (above at))

pub time_from-requires-clause-from : goal.time_from-requires-clause-from
time_from-requires-clause-from c =
    let at = (goal.at.time_from-requires-clause-from c).After-first_above-index in
    rw (c.in_row-busy.ensures, c.set-set.ensures, c.clock-clock.ensures.rate, c.clock-clock.ensures.ahead, c.unflagged-above.ensures, c.requires.blocking, c.requires.costs) (busy_from (here at) c.first_above-index.result (inside at) (above at))

pub returns : goal.returns
returns c =
    let at = (goal.at.returns c).After-first_above-index in
    shared_of (here at) c.first_above-index.result (inside at) (above at) c.time_from.result
    (rw (c.in_row-busy.ensures, c.set-set.ensures, c.clock-clock.ensures.rate, c.clock-clock.ensures.ahead, c.unflagged-above.ensures) at c.time_from.ensures.found) c.time_from.ensures.within (rw (c.in_row-busy.ensures, c.set-set.ensures, c.clock-clock.ensures.rate, c.clock-clock.ensures.ahead, c.unflagged-above.ensures) at c.time_from.ensures.none)
