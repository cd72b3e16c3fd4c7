use Rattle.cop_boot.proofs.PayloadLemmas.{payloads_as_counted}
use Rattle.cop_boot.proofs.laws.planned_payloads.Goals as goal

pub returns : goal.returns
returns c = payloads_as_counted
