use Rattle.std.proofs.Common.{rules}
use Rattle.cop_cert.proofs.drafts.put_queue.Goals as goal

-- written here so that a body that breaks it is refused at once
pub returns-else-is_empty : goal.returns-else-is_empty
returns-else-is_empty c = search rules
