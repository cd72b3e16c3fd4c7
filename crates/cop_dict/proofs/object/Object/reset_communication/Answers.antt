use Rattle.std.proofs.Common.{rules}
use Rattle.cop_dict.proofs.object.Object.reset_communication.Goals as goal

-- written here so that a body that breaks it is refused at once
pub returns-then-matches : goal.returns-then-matches
returns-then-matches c = search rules
