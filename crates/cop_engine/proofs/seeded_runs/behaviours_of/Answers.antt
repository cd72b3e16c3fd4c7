use Rattle.std.proofs.Common.{arith}
use Rattle.std.proofs.lemmas.Grind.{common_steps}
use Rattle.cop_engine.proofs.seeded_runs.behaviours_of.Goals as goal

-- written here so that a body that breaks it is refused at once
pub loop-stream-preserved : goal.loop-stream-preserved
loop-stream-preserved c = grind (arith, common_steps)
