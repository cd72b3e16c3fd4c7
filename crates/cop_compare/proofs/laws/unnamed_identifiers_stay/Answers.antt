use Rattle.cop_compare.proofs.OneDictionary.{same_identifier}
use Rattle.cop_compare.proofs.laws.unnamed_identifiers_stay.Goals as goal

pub returns : goal.returns
returns c = same_identifier
