use Rattle.cop_cert.proofs.SharedTrip.{shared_is_read}
use Rattle.cop_cert.proofs.laws.shared_refusals_are_read.Goals as goal

pub returns : goal.returns
returns c = shared_is_read
