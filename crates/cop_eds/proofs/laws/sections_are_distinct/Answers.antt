use Rattle.cop_eds.proofs.LawLemmas.{distinct_sections, lawful_lines}
use Rattle.cop_eds.proofs.laws.sections_are_distinct.Goals as goal

pub returns : goal.returns
returns c = λ text e. distinct_sections text (lawful_lines text e)
