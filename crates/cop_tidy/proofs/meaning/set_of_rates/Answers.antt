use Rattle.cop_tidy.proofs.MeantLemmas.{rate_moved, none_left}
use Rattle.cop_tidy.proofs.meaning.set_of_rates.Goals as goal

pub loop-rate-preserved : goal.loop-rate-preserved
loop-rate-preserved c =
    rate_moved c.insert.new.self c.loop-rate.set c.loop-rate.rest.now c.in-Some.others.now c.args.rates.now c.in-Some.rate.now c.in-Some.ensures.cases c.insert.ensures c.loop-rate.invariant

pub returns : goal.returns
returns c = none_left c.loop-rate.set c.loop-rate.rest.now c.args.rates.now c.in_default.ensures.cases c.loop-rate.invariant
