use Rattle.cop_bus.proofs.RoundTrip.{written_is_read}
use Rattle.cop_bus.proofs.reading.read_trace.Goals as goal

pub returns-clause-written : goal.returns-clause-written
returns-clause-written c = λ until steps writable e. rw (e, written_is_read until steps writable) at c.trace_of.ensures
