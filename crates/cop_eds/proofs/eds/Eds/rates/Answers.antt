use Rattle.cop_eds.proofs.RateLemmas.{twice}
use Rattle.cop_eds.proofs.eds.Eds.rates.Goals as goal

pub returns : goal.returns
returns c = λ r. rw (← c.self.view_is) (twice (c.both.ensures r) (c.self.invariant.supported r))
