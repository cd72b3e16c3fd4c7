use Rattle.cop_sdo.proofs.Aborted.{unchanged}
use Rattle.cop_sdo.proofs.laws.aborts_change_nothing.Goals as goal

pub returns : goal.returns
returns c = unchanged
