use Rattle.std.proofs.Common.{arith}
use Rattle.std.proofs.lemmas.Grind.{common_steps}
use Rattle.cop_table.proofs.records.Record.is.Goals as goal

-- written here so that a body that breaks it is refused at once
pub loop-place-preserved : goal.loop-place-preserved
loop-place-preserved c = grind (arith, common_steps)
