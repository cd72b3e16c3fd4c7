use Rattle.cop_cert.proofs.LongSync.{long_sync_fails}
use Rattle.cop_cert.proofs.laws.long_sync_rules_out.Goals as goal

pub returns : goal.returns
returns c = long_sync_fails
