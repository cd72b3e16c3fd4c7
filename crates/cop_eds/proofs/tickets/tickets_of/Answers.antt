use Rattle.std.proofs.Common.{length}
use Rattle.cop_eds.specs.declared.line.Kind.TheVariants.{Header}
use Rattle.cop_eds.specs.declared.tickets.Ticket.{Ticket}
use Rattle.cop_eds.proofs.IndexLemmas.{complete_both, complete_kept}
use Rattle.cop_eds.proofs.TicketLemmas.{all_tickets}
use Rattle.cop_eds.proofs.tickets.tickets_of.Goals as goal

pub returns : goal.returns
returns c = all_tickets c.args.source.now c.args.lines.now c.args.bits _ _ c.sort_tickets.ensures c.in_ok-push_tickets-2.ensures.sound
    (complete_both (λ (t : Ticket). t.line) c.args.source.now c.args.lines.now _
    (complete_kept (λ (t : Ticket). t.line) c.args.source.now Header c.args.lines.now _ _ (length c.args.lines.now) c.in_ok-push_tickets-2.ensures.kept c.in_ok-push_tickets.ensures.complete)
    c.in_ok-push_tickets-2.ensures.complete)
