use Rattle.std.proofs.Common.{◌↔◌}
use Rattle.cop_net.proofs.RateLemmas.{same_members}
use Rattle.cop_net.proofs.devices.Devices.rates.Goals as goal

through : {A B C : Type 0} → A ↔ B → C ↔ B → A ↔ C
through e f = (λ a. f.1 (e.0 a), λ c. e.1 (f.0 c))

pub returns : goal.returns
returns c = rw (← c.self.view_is) (λ r. through (c.same.ensures.members r) (same_members c.self.inside.rates r))
