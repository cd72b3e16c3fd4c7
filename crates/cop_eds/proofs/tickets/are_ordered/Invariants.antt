use Rattle.std.proofs.Common.{◌≡◌, true}
use Rattle.std.specs.List.{AllAdjacentBelow}
use Rattle.cop_eds.specs.Tickets.{is_ahead}
use Rattle.cop_eds.proofs.tickets.are_ordered.Given as goal

abbrev pub invariant-loop-i : goal.invariant-loop-i
invariant-loop-i l = AllAdjacentBelow (λ ticket next. is_ahead ticket next ≡ true) l.tickets l.i
