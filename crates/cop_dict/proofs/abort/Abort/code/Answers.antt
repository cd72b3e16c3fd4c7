use Rattle.std.proofs.Common.{rules}
use Rattle.cop_dict.proofs.abort.Abort.code.Goals as goal

-- written here so that a body that breaks it is refused at once
pub returns-in-NoSub-clause-value : goal.returns-in-NoSub-clause-value
returns-in-NoSub-clause-value c = search rules
