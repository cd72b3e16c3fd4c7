use Rattle.std.proofs.Common.{sym, ◌∙◌}
use Rattle.cop_frame.specs.RateSet.{all_rates}
use Rattle.cop_tidy_reading.specs.Lists.{has_rate}
use Rattle.cop_tidy_reading.proofs.LoopLemmas.{any_next}
use Rattle.cop_tidy_reading.proofs.lists.has_rates.Goals as goal

pub loop-rate-preserved : goal.loop-rate-preserved
loop-rate-preserved c =
    any_next (has_rate c.args.contents.now c.args.section) all_rates c.loop-rate.rate-index _ _ c.loop-rate-test.true (sym c.in_ok-has_rate.ensures ∙ c.if-branch.false) c.loop-rate.invariant
