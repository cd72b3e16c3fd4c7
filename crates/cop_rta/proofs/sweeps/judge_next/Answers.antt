use Rattle.std.proofs.Common.{◌≡◌, ◌∙◌, true, set, arith}
use Rattle.cop_rta.specs.Test.{blocking}
use Rattle.cop_rta.specs.Placing.{Flags, place_in}
use Rattle.cop_rta.proofs.FlagLemmas.{set_here}
use Rattle.cop_rta.proofs.NextStarts.{bounds, time_starts, time_ends, wait_starts}
use Rattle.cop_rta.proofs.PlaceEquations.{blocking_is}
use Rattle.cop_rta.proofs.PlacingLemmas.{shared_of}
use Rattle.cop_rta.proofs.sweeps.judge_next.Goals as goal

pub wait_after-from-requires-clause-last : goal.wait_after-from-requires-clause-last
wait_after-from-requires-clause-last c =
    bounds (record { streams = c.args.streams.now; flags = c.args.above.now; rate = c.args.clock.rate }) c.requires.size c.args.index c.requires.index c.requires.unflagged c.args.last c.requires.last

pub time_after-time-requires-clause-from : goal.time_after-time-requires-clause-from
time_after-time-requires-clause-from c =
    rw (c.in_row-busy.ensures, c.flagged-flagged.ensures, c.requires.ahead) (time_starts (record { streams = c.args.streams.now; flags = c.args.above.now; rate = c.args.clock.rate }) c.requires.size c.args.index c.requires.index c.requires.unflagged c.args.last c.requires.last)

pub time_after-time-requires-clause-long : goal.time_after-time-requires-clause-long
time_after-time-requires-clause-long c =
    rw (c.in_row-busy.ensures, c.flagged-flagged.ensures, c.requires.ahead) (time_ends (record { streams = c.args.streams.now; flags = c.args.above.now; rate = c.args.clock.rate }) c.requires.size c.args.index c.requires.index c.requires.unflagged c.args.last c.requires.last)

pub judged-judged-requires-clause-from : goal.judged-judged-requires-clause-from
judged-judged-requires-clause-from c =
    let below : c.longest_below-from_below.result ≡ blocking (place_in (record { streams = c.args.streams.now; flags = set c.args.above.now c.args.index true; rate = c.args.clock.rate }) c.args.index) =
    rw (c.streams.ensures.items, c.flagged-flagged.ensures) at c.longest_below-from_below.ensures.value in
    rw (c.in_row-busy.ensures, c.flagged-flagged.ensures, c.requires.ahead)
    (wait_starts (record { streams = c.args.streams.now; flags = c.args.above.now; rate = c.args.clock.rate }) c.requires.size c.args.index c.requires.index c.requires.unflagged c.args.last c.requires.last
    c.longest_below-from_below.result c.wait_after-from.result below c.wait_after-from.ensures.room c.wait_after-from.ensures.none c.wait_after-from.ensures.first)

pub returns-clause-last : goal.returns-clause-last
returns-clause-last c =
    let v : Flags = record { streams = c.args.streams.now; flags = set c.args.above.now c.args.index true; rate = c.args.clock.rate } in
    let flag = set_here c.args.above.now c.args.index (omega (arith, c.requires.index, c.requires.size)) in
    let below : c.longest_below-from_below.result ≡ blocking (place_in v c.args.index) = rw (c.streams.ensures.items, c.flagged-flagged.ensures) at c.longest_below-from_below.ensures.value in
    record {
      index = c.args.index;
      inside = c.requires.index;
      flagged = flag;
      cost = rw (c.in_row-busy.ensures) at c.cost.ensures.value;
      cost_most = c.cost.ensures.most;
      longest = below ∙ blocking_is v c.args.index c.requires.index flag;
      shared = shared_of v c.args.index c.requires.index flag c.time_after-time.result
          (rw (c.in_row-busy.ensures, c.flagged-flagged.ensures, c.requires.ahead) at c.time_after-time.ensures.found) c.time_after-time.ensures.within (rw (c.in_row-busy.ensures, c.flagged-flagged.ensures, c.requires.ahead) at c.time_after-time.ensures.none);
      wait = rw (c.in_row-busy.ensures, c.flagged-flagged.ensures, c.requires.ahead) at c.judged-judged.ensures.wait;
      within = c.judged-judged.ensures.within;
    }
