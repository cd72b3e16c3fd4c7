use Rattle.cop_net.proofs.RateLemmas.{narrowed}
use Rattle.cop_net.proofs.rates.supported.Goals as goal

pub returns : goal.returns
returns c = narrowed c.args.rates.now c.both.result c.rates.result c.args.eds.now c.rates.ensures c.both.ensures
