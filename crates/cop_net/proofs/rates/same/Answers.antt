use Rattle.cop_net.proofs.RateLemmas.{same_order, in_both}
use Rattle.cop_net.proofs.rates.same.Goals as goal

pub returns-clause-members : goal.returns-clause-members
returns-clause-members c = in_both c.args.rates.now c.both.result c.both.ensures

pub returns-clause-order : goal.returns-clause-order
returns-clause-order c = same_order c.args.rates.now c.both.result (in_both c.args.rates.now c.both.result c.both.ensures)
