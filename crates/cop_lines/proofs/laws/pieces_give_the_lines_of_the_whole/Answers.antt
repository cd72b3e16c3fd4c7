use Rattle.cop_lines.proofs.TextLemmas.{whole_lines}
use Rattle.cop_lines.proofs.laws.pieces_give_the_lines_of_the_whole.Goals as goal

pub returns : goal.returns
returns c = λ pieces lines kept cut. whole_lines pieces lines kept cut
