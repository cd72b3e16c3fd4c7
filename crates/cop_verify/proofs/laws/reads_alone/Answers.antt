use Rattle.cop_verify.proofs.LawLemmas.{all_read}
use Rattle.cop_verify.proofs.laws.reads_alone.Goals as goal

pub returns : goal.returns
returns c net ids nodes = all_read net ids nodes
