use Rattle.std.proofs.Common.{arith}
use Rattle.std.proofs.lemmas.Grind.{common_steps}
use Rattle.cop_net.proofs.shelf.texts_of.Goals as goal

-- written here so that a body that breaks it is refused at once
pub loop-file-preserved : goal.loop-file-preserved
loop-file-preserved c = grind (arith, common_steps)
