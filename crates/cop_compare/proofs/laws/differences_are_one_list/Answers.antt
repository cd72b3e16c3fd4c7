use Rattle.cop_compare.proofs.OneList.{one_list}
use Rattle.cop_compare.proofs.laws.differences_are_one_list.Goals as goal

pub returns : goal.returns
returns c = one_list
