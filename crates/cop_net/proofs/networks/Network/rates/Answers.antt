use Rattle.cop_net.proofs.networks.Network.rates.Goals as goal

pub returns-clause-rates : goal.returns-clause-rates
returns-clause-rates c = rw (← c.self.view_is) c.rates.ensures
