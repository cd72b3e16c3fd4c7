use Rattle.cop_rta.specs.TestLemmas.{busy_at-mono, queueing_at-mono}
use Rattle.cop_rta.proofs.laws.equations_never_fall.Goals as goal

pub returns-clause-busy : goal.returns-clause-busy
returns-clause-busy c = busy_at-mono

pub returns-clause-queueing : goal.returns-clause-queueing
returns-clause-queueing c = queueing_at-mono
