use Rattle.cop_setup.proofs.PayloadLemmas.{payloads_kept}
use Rattle.cop_setup.proofs.laws.payloads_stay.Goals as goal

pub returns : goal.returns
returns c = payloads_kept
