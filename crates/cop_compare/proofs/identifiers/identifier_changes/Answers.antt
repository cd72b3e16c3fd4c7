use Rattle.std.proofs.Common.{arith}
use Rattle.cop_compare.proofs.IdentifierLemmas.{at_start, goes_on, at_end}
use Rattle.cop_compare.proofs.identifiers.identifier_changes.Goals as goal

pub loop-tpdo-init : goal.loop-tpdo-init
loop-tpdo-init c = at_start _ _ _ c.new-all.ensures.items

pub loop-tpdo-preserved : goal.loop-tpdo-preserved
loop-tpdo-preserved c = goes_on _ _ _ _ _ _ (omega arith) c.loop-tpdo.invariant c.identifier_change.ensures c.in_ok-add.ensures

pub returns : goal.returns
returns c = at_end _ _ _ _ (omega arith) c.loop-tpdo.invariant
