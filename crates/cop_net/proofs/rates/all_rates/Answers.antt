use Rattle.std.proofs.Common.{refl, true}
use Rattle.cop_frame.specs.RateSet.{all_rates}
use Rattle.cop_eds.proofs.RateLemmas.{found_more, all_found, put}
use Rattle.cop_net.proofs.RateLemmas.{each_rate, all_in_order}
use Rattle.cop_net.proofs.rates.all_rates.Goals as goal

pub loop-rate-preserved : goal.loop-rate-preserved
loop-rate-preserved c =
    found_more each_rate all_rates c.loop-rate.rate-index _ true _ _ c.loop-rate-test.true refl c.loop-rate.invariant (λ r. put refl (c.insert.ensures r))

pub returns : goal.returns
returns c = all_in_order c.loop-rate.rates (λ r. (all_found each_rate c.loop-rate.rate-index _ c.loop-rate-test.false c.loop-rate.invariant r).1 refl)
