use Rattle.std.proofs.Common.{rules}
use Rattle.cop_nmt.proofs.fixed.boot_up.Goals as goal

-- written here so that a body that breaks it is refused at once
pub invariant_of-result : goal.invariant_of-result
invariant_of-result c = search rules
