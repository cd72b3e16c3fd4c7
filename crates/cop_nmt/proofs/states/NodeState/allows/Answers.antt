use Rattle.std.proofs.Common.{rules}
use Rattle.cop_nmt.proofs.states.NodeState.allows.Goals as goal

-- written here so that a body that breaks it is refused at once
pub returns-in-Sdo : goal.returns-in-Sdo
returns-in-Sdo c = search rules
