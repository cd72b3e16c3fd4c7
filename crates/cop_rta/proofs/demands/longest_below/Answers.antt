use Rattle.std.proofs.Common.{◌≡◌, ◌≤◌, ◌*◌, ◌+◌, length, max, ◌∙◌, sym, arith, true}
use Rattle.std.proofs.lemmas.Grind.{common_steps}
use Rattle.cop_frame.specs.Rate.{ticks_of}
use Rattle.cop_rta.specs.Sums.{max_where}
use Rattle.cop_rta.specs.SumsLemmas.{max_where-more_yes, of_stream_read}
use Rattle.cop_rta.specs.Test.{flagged_place, is_below, of_stream, cost_of}
use Rattle.cop_rta.proofs.LongestLemmas.{found_early}
use Rattle.cop_rta.proofs.demands.longest_below.Goals as goal

pub returns-then-longest-most-clause-value : goal.returns-then-longest-most-clause-value
returns-then-longest-most-clause-value c =
    let p = is_below (flagged_place c.args.streams.now c.args.above.now c.args.index c.args.rate) in
    let f = of_stream (cost_of c.args.rate) c.args.streams.now in
    let next : c.max-longest.result ≡ max c.loop-k.longest c.cost.result = grind (arith, common_steps) in
    let passes : p c.loop-k.k ≡ true = sym c.is_other_below.ensures ∙ c.if-is_other_below.true in
    let read : f c.loop-k.k ≡ c.cost.result = of_stream_read (cost_of c.args.rate) c.args.streams.now c.loop-k.k c.index-streams-k.result c.loop-k-test.true c.index-streams-k.is ∙ sym c.cost.ensures.value in
    let before : c.loop-k.longest ≡ max_where p f c.loop-k.k = c.loop-k.invariant.0 in
    let here : c.max-longest.result ≡ max_where p f (c.loop-k.k + 1) = omega (arith, next, max_where-more_yes p f c.loop-k.k passes, read, before) in
    let long : 166 * ticks_of c.args.rate ≤ c.max-longest.result = omega (arith, c.if-longest-most.true, c.from-most.ensures, c.ticks_per_bit.ensures.ticks) in
    found_early p c.args.rate c.args.streams.now c.loop-k.k (length c.args.streams.now) c.max-longest.result c.loop-k-test.true here long
