use Rattle.cop_boot.proofs.StartLemmas.{all_sent_may}
use Rattle.cop_boot.proofs.laws.nothing_else_is_sent.Goals as goal

pub returns : goal.returns
returns c = all_sent_may
