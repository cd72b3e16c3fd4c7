use Rattle.cop_errors.proofs.Windows.{spaced_are_rare}
use Rattle.cop_errors.proofs.laws.spaced_are_rare.Goals as goal

pub returns : goal.returns
returns c = spaced_are_rare
