use Rattle.std.proofs.Common.{rules}
use Rattle.cop_dict.proofs.description.Description.refused_size.Goals as goal

-- written here so that a body that breaks it is refused at once
pub returns-in_default : goal.returns-in_default
returns-in_default c = search rules
