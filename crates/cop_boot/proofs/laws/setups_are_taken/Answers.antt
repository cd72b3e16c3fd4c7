use Rattle.cop_boot.proofs.SetupLemmas.{setup_taken}
use Rattle.cop_boot.proofs.laws.setups_are_taken.Goals as goal

pub returns : goal.returns
returns c = λ dict ids time setup can accepted beside. setup_taken dict ids time can setup accepted beside
