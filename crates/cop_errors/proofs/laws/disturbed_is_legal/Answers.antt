use Rattle.cop_errors.proofs.Legal.{legal_more}
use Rattle.cop_errors.proofs.laws.disturbed_is_legal.Goals as goal

pub returns : goal.returns
returns c = legal_more
