use Rattle.cop_dict.proofs.Replaced.{written_sorted}
use Rattle.cop_dict.proofs.laws.accepted_stays_sorted.Goals as goal

pub returns : goal.returns
returns c = written_sorted
