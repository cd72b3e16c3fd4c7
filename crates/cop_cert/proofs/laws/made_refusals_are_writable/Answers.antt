use Rattle.cop_cert.proofs.MadeLemmas.{made_is_writable}
use Rattle.cop_cert.proofs.laws.made_refusals_are_writable.Goals as goal

pub returns : goal.returns
returns c = made_is_writable
