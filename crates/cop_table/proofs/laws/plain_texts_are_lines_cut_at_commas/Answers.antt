use Rattle.cop_table.proofs.PlainLemmas.{plain_lines}
use Rattle.cop_table.proofs.laws.plain_texts_are_lines_cut_at_commas.Goals as goal

pub returns : goal.returns
returns c = λ text plain. plain_lines text plain
