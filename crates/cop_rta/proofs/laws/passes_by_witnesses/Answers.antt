use Rattle.cop_rta.proofs.WitnessLemmas.{passes_has_witnesses, witnesses_pass}
use Rattle.cop_rta.proofs.laws.passes_by_witnesses.Goals as goal

pub returns : goal.returns
returns c = λ p inside. (passes_has_witnesses p, witnesses_pass p inside)
