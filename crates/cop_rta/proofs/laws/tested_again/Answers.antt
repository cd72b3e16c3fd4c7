use Rattle.cop_rta.proofs.BusLemmas.{tested_again}
use Rattle.cop_rta.proofs.laws.tested_again.Goals as goal

pub returns-clause-again : goal.returns-clause-again
returns-clause-again c streams s distinct some = (tested_again streams distinct s some).again

pub returns-clause-free : goal.returns-clause-free
returns-clause-free c streams s distinct some = (tested_again streams distinct s some).free
