use Rattle.std.proofs.Common.{rules}
use Rattle.cop_nmt.proofs.producer.Producer.due.Goals as goal

-- written here so that a body that breaks it is refused at once
pub returns-then-due-clause-kept : goal.returns-then-due-clause-kept
returns-then-due-clause-kept c = search rules
