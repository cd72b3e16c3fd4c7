use Rattle.std.proofs.Common.{rules}
use Rattle.cop_bus.proofs.bus.Bus.end.Goals as goal

-- written here so that a body that breaks it is refused at once
pub returns-clause-idle : goal.returns-clause-idle
returns-clause-idle c = search rules
