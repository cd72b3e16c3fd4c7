use Rattle.cop_dict.proofs.DictLemmas.{own_place}
use Rattle.cop_dict.proofs.laws.entries_are_found.Goals as goal

pub returns : goal.returns
returns c = own_place
