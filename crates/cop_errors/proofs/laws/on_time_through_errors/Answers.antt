use Rattle.cop_errors.proofs.Through.{on_time_through}
use Rattle.cop_errors.proofs.laws.on_time_through_errors.Goals as goal

pub returns : goal.returns
returns c = on_time_through
