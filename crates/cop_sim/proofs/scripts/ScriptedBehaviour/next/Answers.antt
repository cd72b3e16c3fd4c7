use Rattle.std.proofs.Common.{rules}
use Rattle.cop_sim.proofs.scripts.ScriptedBehaviour.next.Goals as goal

-- written here so that a body that breaks it is refused at once
pub returns-clause-answer : goal.returns-clause-answer
returns-clause-answer c = search rules

pub returns-clause-rest : goal.returns-clause-rest
returns-clause-rest c = search rules
