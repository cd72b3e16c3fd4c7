use Rattle.cop_standing.proofs.IdentifierLemmas.{can_be_planned}
use Rattle.cop_standing.proofs.laws.what_stands_can_be_planned.Goals as goal

pub returns : goal.returns
returns c = can_be_planned
