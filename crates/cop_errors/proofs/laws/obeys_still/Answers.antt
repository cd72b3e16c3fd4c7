use Rattle.cop_errors.proofs.Extended.{obeys_still}
use Rattle.cop_errors.proofs.laws.obeys_still.Goals as goal

pub returns : goal.returns
returns c tau until streams run hits events k = obeys_still run hits events tau until streams k
