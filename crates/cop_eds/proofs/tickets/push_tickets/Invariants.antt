use Rattle.std.proofs.Common.{◌≡◌, ◌<◌, ◌+◌, ◌&&◌, ℕ, true, Some, is_some, slice_get, Contains}
use Rattle.std.specs.List.{All}
use Rattle.cop_eds.specs.declared.line.Line.{Line}
use Rattle.cop_eds.specs.declared.tickets.Ticket.{Ticket}
use Rattle.cop_eds.specs.Lines.{is_kind}
use Rattle.cop_eds.specs.Index.{line_key}
use Rattle.cop_eds.specs.Tickets.{IsTicket}
use Rattle.cop_eds.proofs.tickets.push_tickets.Given as goal

abbrev pub invariant-loop-place : goal.invariant-loop-place
invariant-loop-place l = record {
  sound : All (IsTicket l.source l.lines l.bits) l.tickets.items;
  complete : (place : ℕ) (line : Line) → place < l.place → slice_get l.lines place ≡ Some line
      → (is_kind line.kind l.kind && is_some (line_key l.source line)) ≡ true
      → (ticket : Ticket) × Contains l.tickets.items ticket × (ticket.line ≡ place + 1);
  kept : (ticket : Ticket) → Contains l.initial.tickets.items ticket → Contains l.tickets.items ticket;
}
