use Rattle.std.proofs.Common.{◌∙◌}
use Rattle.cop_net.proofs.RateLemmas.{has_one}
use Rattle.cop_net.proofs.devices.Devices.has_rate.Goals as goal

pub returns : goal.returns
returns c = c.is_some.ensures ∙ rw (← c.self.view_is) (has_one c.self.inside.rates c.slowest.result c.slowest.ensures.member c.slowest.ensures.none)
