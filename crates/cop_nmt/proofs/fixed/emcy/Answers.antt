use Rattle.std.proofs.Common.{arith}
use Rattle.std.proofs.lemmas.Grind.{common_steps}
use Rattle.cop_nmt.proofs.fixed.emcy.Goals as goal

-- written here so that a body that breaks it is refused at once
pub returns-clause-body : goal.returns-clause-body
returns-clause-body c = grind (arith, common_steps)
