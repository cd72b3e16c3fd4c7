use Rattle.cop_rta.proofs.Without.{without_errors}
use Rattle.cop_rta.proofs.laws.passes_without_errors.Goals as goal

pub returns : goal.returns
returns c rate e streams index m its free = without_errors e streams free rate index m its
