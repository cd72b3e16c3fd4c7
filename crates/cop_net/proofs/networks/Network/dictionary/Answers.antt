use Rattle.std.proofs.Common.{rules}
use Rattle.cop_net.proofs.networks.Network.dictionary.Goals as goal

-- written here so that a body that breaks it is refused at once
pub returns-in-Some : goal.returns-in-Some
returns-in-Some c = search rules

pub returns-in-None : goal.returns-in-None
returns-in-None c = search rules
