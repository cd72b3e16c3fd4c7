use Rattle.cop_rta.proofs.MoreAbove.{passes_under_fewer}
use Rattle.cop_rta.proofs.laws.passes_with_fewer_above.Goals as goal

pub returns : goal.returns
returns c = passes_under_fewer
