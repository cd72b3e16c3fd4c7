use Rattle.std.proofs.Common.{rules}
use Rattle.cop_sdo.proofs.exchange.Exchange.confirmed.Goals as goal

-- written here so that a body that breaks it is refused at once
pub returns-then-toggle-other : goal.returns-then-toggle-other
returns-then-toggle-other c = search rules
