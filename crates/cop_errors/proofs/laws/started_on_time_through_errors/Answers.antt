use Rattle.cop_errors.proofs.Through.{started_through}
use Rattle.cop_errors.proofs.laws.started_on_time_through_errors.Goals as goal

pub returns : goal.returns
returns c = started_through
