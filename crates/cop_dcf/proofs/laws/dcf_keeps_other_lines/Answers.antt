use Rattle.cop_dcf.proofs.SaidLemmas.{other_lines}
use Rattle.cop_dcf.proofs.laws.dcf_keeps_other_lines.Goals as goal

pub returns : goal.returns
returns c = other_lines
