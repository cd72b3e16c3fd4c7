use Rattle.cop_errors.proofs.Through.{few_wait_through}
use Rattle.cop_errors.proofs.laws.few_wait_through_errors.Goals as goal

pub returns : goal.returns
returns c = few_wait_through
