use Rattle.cop_cdcf.proofs.ReadingLemmas.{read_again}
use Rattle.cop_cdcf.proofs.laws.concise_is_read_again.Goals as goal

pub returns : goal.returns
returns c = read_again
