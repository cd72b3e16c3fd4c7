use Rattle.cop_setup.proofs.TryLemmas.{accepted_in_turn}
use Rattle.cop_setup.proofs.laws.taken_are_accepted.Goals as goal

pub returns : goal.returns
returns c = accepted_in_turn
