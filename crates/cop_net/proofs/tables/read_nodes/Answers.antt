use Rattle.std.proofs.Common.{rules}
use Rattle.cop_net.proofs.tables.read_nodes.Goals as goal

-- written here so that a body that breaks it is refused at once
pub returns-in-Err-Refused : goal.returns-in-Err-Refused
returns-in-Err-Refused c = search rules
