use Rattle.cop_unchanged.proofs.SameLemmas.{needs_none}
use Rattle.cop_unchanged.proofs.laws.same_nodes_need_no_boot.Goals as goal

pub returns : goal.returns
returns c = needs_none
