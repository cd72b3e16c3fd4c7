use Rattle.cop_boot.proofs.AskedValueLemmas.{values_there}
use Rattle.cop_boot.proofs.laws.asked_values_are_there.Goals as goal

pub returns : goal.returns
returns c = values_there
