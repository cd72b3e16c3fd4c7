use Rattle.cop_eds.proofs.RateLemmas.{put}
use Rattle.cop_eds.proofs.rates.insert_if.Goals as goal

pub returns-then-is_supported : goal.returns-then-is_supported
returns-then-is_supported c = λ r. put c.if-is_supported.true (c.insert.ensures r)
