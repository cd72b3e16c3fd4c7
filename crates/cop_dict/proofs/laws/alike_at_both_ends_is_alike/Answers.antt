use Rattle.cop_dict.proofs.NodeLemmas.{alike_between}
use Rattle.cop_dict.proofs.laws.alike_at_both_ends_is_alike.Goals as goal

pub returns : goal.returns
returns c = alike_between
