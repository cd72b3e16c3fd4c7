use Rattle.cop_eds.proofs.LawLemmas.{first_broken}
use Rattle.cop_eds.proofs.laws.first_broken_line.Goals as goal

pub returns : goal.returns
returns c = λ text refusal e. first_broken text refusal e
