use Rattle.std.proofs.Common.{rules}
use Rattle.cop_eds.proofs.fault.Rule.number.Goals as goal

-- written here so that a body that breaks it is refused at once
pub returns-in-ObjectMissing : goal.returns-in-ObjectMissing
returns-in-ObjectMissing c = search rules
