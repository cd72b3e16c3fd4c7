use Rattle.cop_logbook.proofs.BookLemmas.{ended}
use Rattle.cop_logbook.proofs.logbook.Logbook.end.Goals as goal

pub returns-then-self-eq0-clause-whole : goal.returns-then-self-eq0-clause-whole
returns-then-self-eq0-clause-whole c = ended c.args.self.now

pub returns-clause-whole : goal.returns-clause-whole
returns-clause-whole c = ended c.args.self.now
