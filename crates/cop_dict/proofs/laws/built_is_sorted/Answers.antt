use Rattle.cop_dict.proofs.BuildLemmas.{built_sorted}
use Rattle.cop_dict.proofs.laws.built_is_sorted.Goals as goal

pub returns : goal.returns
returns c = built_sorted
