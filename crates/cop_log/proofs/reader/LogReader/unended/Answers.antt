use Rattle.cop_log.proofs.ReadLemmas.{whole}
use Rattle.cop_log.proofs.reader.LogReader.unended.Goals as goal

pub returns-then-is_empty-clause-whole : goal.returns-then-is_empty-clause-whole
returns-then-is_empty-clause-whole c = whole c.args.self.now

pub returns-clause-whole : goal.returns-clause-whole
returns-clause-whole c = whole c.args.self.now
