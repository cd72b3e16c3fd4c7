use Rattle.std.proofs.Common.{rules}
use Rattle.cop_net.proofs.faults.Rule.number.Goals as goal

-- written here so that a body that breaks it is refused at once
pub returns-in-CobId : goal.returns-in-CobId
returns-in-CobId c = search rules
