use Rattle.cop_dict.proofs.Replaced.{pointwise}
use Rattle.cop_dict.proofs.laws.resets_are_pointwise.Goals as goal

pub returns : goal.returns
returns c = pointwise
