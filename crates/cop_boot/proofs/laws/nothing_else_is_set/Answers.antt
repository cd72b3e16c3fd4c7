use Rattle.cop_boot.proofs.AskedValueLemmas.{nothing_else}
use Rattle.cop_boot.proofs.laws.nothing_else_is_set.Goals as goal

pub returns : goal.returns
returns c = nothing_else
