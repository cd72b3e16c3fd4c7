use Rattle.cop_eds.specs.Index.{IsIndex}
use Rattle.cop_eds.specs.Tickets.{AreTickets}
use Rattle.cop_eds.proofs.IndexLemmas.{alone}
use Rattle.cop_eds.proofs.TicketLemmas.{alone_ticket}
use Rattle.cop_eds.proofs.sections.Sections.refusal.Goals as goal

pub first_alone-requires-clause-alone : goal.first_alone-requires-clause-alone
first_alone-requires-clause-alone c = λ place line at.
    let tickets : AreTickets c.self.inside.source.now c.deref.result.now c.self.inside.bits c.self.inside.tickets.items = rw c.deref.ensures.value c.self.invariant.ticketed in
    alone_ticket c.self.inside.source.now c.deref.result.now c.self.inside.bits c.self.inside.tickets.items place line tickets (c.self.invariant.by_number c.if-self.true) at

pub first_alone-requires-then-are_apart-clause-alone :
    goal.first_alone-requires-then-are_apart-clause-alone
first_alone-requires-then-are_apart-clause-alone c = λ place line at.
    let index : IsIndex c.self.inside.source.now c.deref-then-are_apart.result.now c.deref-then-self-2.result.now =
    rw (c.deref-then-self-2.ensures.value, c.deref-then-are_apart.ensures.value) (c.self.invariant.by_name c.if-self-2.true) in
    alone c.self.inside.source.now c.deref-then-are_apart.result.now c.deref-then-self-2.result.now place line index (c.are_apart.ensures.0 c.if-are_apart.true) at
