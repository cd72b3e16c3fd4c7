use Rattle.cop_compare.proofs.IdentifierLemmas.{Told}
use Rattle.cop_compare.proofs.identifiers.identifier_changes.Given as goal

abbrev pub invariant-loop-tpdo : goal.invariant-loop-tpdo
invariant-loop-tpdo l = Told l.old l.new l.tpdo l.all.items
