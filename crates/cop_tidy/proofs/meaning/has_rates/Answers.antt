use Rattle.cop_tidy.proofs.MeantLemmas.{rates_so}
use Rattle.cop_tidy.proofs.meaning.has_rates.Goals as goal

pub returns : goal.returns
returns c =
    rates_so c.args.eds.now c.args.rates.now c.rates.result c.set_of_rates.result c.are_same_rates.result c.rates.ensures c.set_of_rates.ensures c.are_same_rates.ensures
