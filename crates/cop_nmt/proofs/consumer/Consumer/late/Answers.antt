use Rattle.std.proofs.Common.{rules}
use Rattle.cop_nmt.proofs.consumer.Consumer.late.Goals as goal

-- written here so that a body that breaks it is refused at once
pub returns-in-None : goal.returns-in-None
returns-in-None c = search rules
