use Rattle.cop_errors.proofs.SetRuns.{kept}
use Rattle.cop_errors.proofs.laws.kept_through_errors.Goals as goal

pub returns : goal.returns
returns c = kept
