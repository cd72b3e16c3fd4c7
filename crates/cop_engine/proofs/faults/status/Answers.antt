use Rattle.std.proofs.Common.{rules}
use Rattle.cop_engine.proofs.faults.status.Goals as goal

-- written here so that a body that breaks it is refused at once
pub returns-in-Memory : goal.returns-in-Memory
returns-in-Memory c = search rules
