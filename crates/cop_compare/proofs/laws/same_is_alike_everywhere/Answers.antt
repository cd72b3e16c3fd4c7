use Rattle.cop_compare.proofs.LawLemmas.{none_is_alike}
use Rattle.cop_compare.proofs.laws.same_is_alike_everywhere.Goals as goal

pub returns : goal.returns
returns c = none_is_alike
