use Rattle.std.proofs.Common.{rules}
use Rattle.cop_eds.proofs.eds.Eds.amount.Goals as goal

-- written here so that a body that breaks it is refused at once
pub returns-in-Ok : goal.returns-in-Ok
returns-in-Ok c = search rules
