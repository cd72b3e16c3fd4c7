use Rattle.std.proofs.Common.{◌≤◌, ◌-◌, length}
use Rattle.std.specs.List.{AllWithin}
use Rattle.cop_eds.specs.Index.{sort_key}
use Rattle.cop_eds.specs.Tickets.{NoneBefore}
use Rattle.cop_eds.proofs.tickets.find_ticket.Given as goal

abbrev pub invariant-loop-place : goal.invariant-loop-place
invariant-loop-place l = record {
  none : NoneBefore l.source l.lines (sort_key l.key) l.tickets l.place;
  above : AllWithin (λ ticket. l.word ≤ ticket.word) l.tickets l.place (length l.tickets);
}

abbrev pub decreases-loop-place : goal.decreases-loop-place
decreases-loop-place l = length l.tickets - l.place
