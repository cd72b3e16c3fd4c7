use Rattle.std.proofs.Common.{◌≡◌, ◌-◌, ◌*◌, ◌≤◌}
use Rattle.cop_frame.specs.Rate.{ticks_of}
use Rattle.cop_rta.specs.Test.{Flagged, place_of, interference}
use Rattle.cop_rta.proofs.PaceLemmas.{pace_with, pace_small}
use Rattle.cop_rta.proofs.NextStarts.{row_is}
use Rattle.cop_rta.proofs.demands.row_interference.Goals as goal
use Rattle.cop_rta.proofs.demands.row_interference.Goals.{After-bits_within}

abbrev here : After-bits_within → Flagged
here c = record { streams = c.args.set.now; flags = c.args.above.now; index = c.args.index; rate = c.args.clock.rate; ahead = c.args.clock.ahead }

parts : (c : After-bits_within) → (c.bits_within.result ≤ c.total.result) × ((c.total.result - c.bits_within.result) * ticks_of c.args.clock.rate ≡ interference (place_of (here c)) c.args.time)
parts c =
    row_is (here c) c.args.row.now c.after-own.result c.requires.index
    (pace_with c.args.clock.ahead c.args.clock.ahead_most c.args.set.now c.paces-paces.result.now c.paces-paces.ensures.paces c.args.index c.index-paces-index.result c.after-own.result c.requires.index c.index-paces-index.is c.after-own.ensures)
    c.requires.row.own c.requires.row.is c.args.time c.total.result c.bits_within.result c.requires.early c.total.ensures.value c.bits_within.ensures.value

pub after-own-requires-clause-own : goal.after-own-requires-clause-own
after-own-requires-clause-own c = pace_small c.args.set.now c.paces-paces.result.now c.paces-paces.ensures.paces c.args.index c.index-paces-index.result c.requires.index c.index-paces-index.is

pub overflow_sub-result : goal.overflow_sub-result
overflow_sub-result c = (parts (goal.at.overflow_sub-result c).After-bits_within).0

pub returns-clause-value : goal.returns-clause-value
returns-clause-value c = rw (c.from-ticks.ensures, c.ticks_per_bit.ensures.ticks) (parts (goal.at.returns-clause-value c).After-bits_within).1
