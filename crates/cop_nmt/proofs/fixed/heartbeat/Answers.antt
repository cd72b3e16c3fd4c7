use Rattle.std.proofs.Common.{rules}
use Rattle.cop_nmt.proofs.fixed.heartbeat.Goals as goal

-- written here so that a body that breaks it is refused at once
pub returns-clause-body : goal.returns-clause-body
returns-clause-body c = search rules
