use Rattle.cop_bus.proofs.WholeTrace.{clean-legal}
use Rattle.cop_bus.proofs.laws.clean_is_legal.Goals as goal

pub returns : goal.returns
returns c = clean-legal
