use Rattle.std.proofs.Common.{rules, refl}
use Rattle.cop_bus.proofs.SyncTable.{syncs-start}
use Rattle.cop_bus.proofs.ends.Syncs.new.Goals as goal

pub returns : goal.returns
returns c tau steps = syncs-start tau steps _ refl (λ event. search rules)
