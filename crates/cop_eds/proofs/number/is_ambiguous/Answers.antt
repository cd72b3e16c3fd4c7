use Rattle.std.proofs.Common.{arith}
use Rattle.std.proofs.lemmas.Grind.{common_steps}
use Rattle.cop_eds.proofs.number.is_ambiguous.Goals as goal

-- written here so that a body that breaks it is refused at once
pub returns-else-matches : goal.returns-else-matches
returns-else-matches c = grind (arith, common_steps)
