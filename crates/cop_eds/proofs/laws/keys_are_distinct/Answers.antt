use Rattle.cop_eds.proofs.LawLemmas.{distinct_keys, lawful_lines}
use Rattle.cop_eds.proofs.laws.keys_are_distinct.Goals as goal

pub returns : goal.returns
returns c = λ text e. distinct_keys text (lawful_lines text e)
