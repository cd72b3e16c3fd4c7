use Rattle.std.proofs.Common.{subst, ◌∙◌}
use Rattle.cop_eds.specs.Index.{IsIndex, IsNext}
use Rattle.cop_eds.specs.Tickets.{AreTickets}
use Rattle.cop_eds.proofs.sections.Sections.next_header.Goals as goal

pub returns-then-self : goal.returns-then-self
returns-then-self c =
    let index : IsIndex c.self.inside.source.now c.deref.result.now c.deref-then-self.result.now =
    rw (c.deref.ensures.value, c.deref-then-self.ensures.value) (c.self.invariant.by_name c.if-self.true) in
    rw (← c.self.view_is) (subst (λ lines. IsNext c.self.inside.source.now lines c.args.code c.next_code.result) (c.deref.ensures.value ∙ c.self.invariant.all)
    (c.next_code.ensures c.self.inside.source.now index))

pub returns-else-self : goal.returns-else-self
returns-else-self c =
    let tickets : AreTickets c.self.inside.source.now c.deref-else-self.result.now c.self.inside.bits c.deref-else-self-2.result.now =
    rw (c.deref-else-self.ensures.value, c.deref-else-self-2.ensures.value) c.self.invariant.ticketed in
    rw (← c.self.view_is) (subst (λ lines. IsNext c.self.inside.source.now lines c.args.code c.next_ticket.result) (c.deref-else-self.ensures.value ∙ c.self.invariant.all)
    (c.next_ticket.ensures c.self.inside.source.now c.self.inside.bits tickets))
