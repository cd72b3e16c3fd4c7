use Rattle.cop_dict.proofs.Replaced.{value_replaced}
use Rattle.cop_dict.proofs.laws.value_is_replaced.Goals as goal

pub returns : goal.returns
returns c = value_replaced
