use Rattle.std.proofs.Common.{rules}
use Rattle.cop_net.proofs.pdos.received.Goals as goal

-- written here so that a body that breaks it is refused at once
pub returns-then-not-is_usable : goal.returns-then-not-is_usable
returns-then-not-is_usable c = search rules

pub returns : goal.returns
returns c = search rules
