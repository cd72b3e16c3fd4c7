use Rattle.std.proofs.Common.{refl}
use Rattle.cop_rows.proofs.RowsKept.{none_kept}
use Rattle.cop_rows.proofs.node_rows.NodeRows.new.Goals as goal

pub invariant_of-result : goal.invariant_of-result
invariant_of-result c = none_kept _ _ c.new.result.items c.new-2.result.items c.new.ensures.items c.new-2.ensures.items refl refl
