use Rattle.cop_standing.specs.Identifiers.{AreIds}
use Rattle.cop_standing.proofs.identifiers.standing_ids.Given as goal

abbrev pub invariant-loop-row : goal.invariant-loop-row
invariant-loop-row l = AreIds l.network l.row l.ids.items
