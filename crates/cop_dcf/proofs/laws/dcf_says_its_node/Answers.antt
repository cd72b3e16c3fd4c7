use Rattle.cop_dcf.proofs.SaidLemmas.{says_node}
use Rattle.cop_dcf.proofs.laws.dcf_says_its_node.Goals as goal

pub returns : goal.returns
returns c = says_node
