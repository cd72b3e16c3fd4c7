use Rattle.std.proofs.Common.{sym, ◌∙◌}
use Rattle.std.specs.Option.{option_to_list}
use Rattle.cop_tidy_reading.specs.SeenValues.{seen}
use Rattle.cop_tidy_reading.specs.Reading.{rate_in}
use Rattle.cop_tidy_reading.proofs.GatheringLemmas.{next_at}
use Rattle.cop_tidy_reading.proofs.rates.stated_among.Goals as goal

pub loop-rate-preserved : goal.loop-rate-preserved
loop-rate-preserved c =
    rw (c.in_ok-gather.ensures.found, c.in_ok-gather.ensures.asked, c.in_ok-read.ensures)
    (sym (next_at option_to_list (rate_in (seen c.args.whole.now) c.args.section) c.loop-rate.earliest.question c.loop-rate.found.items c.args.rates.now c.loop-rate.rate-index _ c.loop-rate-test.true)
    ∙ c.loop-rate.invariant)
