use Rattle.cop_errors.proofs.Windows.{undisturbed}
use Rattle.cop_errors.proofs.laws.undisturbed_is_legal.Goals as goal

pub returns : goal.returns
returns c = undisturbed
