use Rattle.cop_eds.proofs.MarkLemmas.{MarkedTo}
use Rattle.cop_eds.proofs.marks.marks_of.Given as goal

abbrev pub invariant-loop-ticket : goal.invariant-loop-ticket
invariant-loop-ticket l = MarkedTo l.bits l.marks.items l.tickets l.ticket-index
