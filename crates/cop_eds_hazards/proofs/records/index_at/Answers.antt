use Rattle.std.proofs.Common.{arith}
use Rattle.std.proofs.lemmas.Grind.{common_steps}
use Rattle.std.proofs.lemmas.Option.{gets}
use Rattle.cop_eds_hazards.specs.Records.{index_at}
use Rattle.cop_eds_hazards.proofs.records.index_at.Goals as goal

pub returns-in_ok-begun-in-Some : goal.returns-in_ok-begun-in-Some
unfolding index_at
returns-in_ok-begun-in-Some c = grind (arith, common_steps, gets)

pub returns-in-None : goal.returns-in-None
unfolding index_at
returns-in-None c = grind (arith, common_steps, gets)
