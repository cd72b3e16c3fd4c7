use Rattle.cop_errors.proofs.Windows.{windows}
use Rattle.cop_errors.proofs.laws.rare_windows.Goals as goal

pub returns : goal.returns
returns c = windows
