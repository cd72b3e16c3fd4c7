use Rattle.std.proofs.Common.{rules}
use Rattle.cop_dict.proofs.object.Object.value.Goals as goal

-- written here so that a body that breaks it is refused at once
pub returns-clause-value : goal.returns-clause-value
returns-clause-value c = search rules
