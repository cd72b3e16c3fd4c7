use Rattle.cop_cert.proofs.RoundTrip.{written_is_read}
use Rattle.cop_cert.proofs.laws.written_refusals_are_read.Goals as goal

pub returns : goal.returns
returns c = written_is_read
