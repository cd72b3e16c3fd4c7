use Rattle.std.proofs.Common.{rules}
use Rattle.cop_engine.proofs.faults.FaultFromPlanFault.from.Goals as goal

-- written here so that a body that breaks it is refused at once
pub returns-in-Refused : goal.returns-in-Refused
returns-in-Refused c = search rules
