use Rattle.std.proofs.Common.{rules}
use Rattle.cop_dict.proofs.blueprint.Blueprint.dictionary.Goals as goal

-- written here so that a body that breaks it is refused at once
pub returns-in_err-entries : goal.returns-in_err-entries
returns-in_err-entries c = search rules

pub returns : goal.returns
returns c = search rules
