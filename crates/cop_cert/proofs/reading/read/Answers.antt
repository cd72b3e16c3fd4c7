use Rattle.cop_cert.proofs.RoundTrip.{written_is_read}
use Rattle.cop_cert.proofs.SharedTrip.{shared_is_read}
use Rattle.cop_cert.proofs.ReadableLemmas.{given_is_writable}
use Rattle.cop_cert.specs.Faults.{breach_of}
use Rattle.cop_cert.proofs.reading.read.Goals as goal

pub returns-clause-written : goal.returns-clause-written
returns-clause-written c = λ refusals writable e. rw (e, written_is_read refusals writable) at c.refusals_of.ensures

pub returns-clause-shared : goal.returns-clause-shared
returns-clause-shared c = λ refusals writable e. rw (e, shared_is_read refusals writable) at c.refusals_of.ensures

pub returns-clause-readable : goal.returns-clause-readable
returns-clause-readable c = given_is_writable (λ refusals. refusals.items) breach_of c.refusals_of.result c.args.bytes.now c.refusals_of.ensures
