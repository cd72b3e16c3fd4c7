use Rattle.cop_setup.proofs.OffLemmas.{offs_taken}
use Rattle.cop_setup.proofs.laws.every_off_is_taken.Goals as goal

pub returns : goal.returns
returns c = λ dict sorted. offs_taken dict sorted
