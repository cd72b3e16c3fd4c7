use Rattle.std.proofs.Common.{◌≡◌, sym, ap, ◌∙◌}
use Rattle.std.proofs.lemmas.Option.{slice_get-get_or}
use Rattle.cop_eds.specs.Lines.{lines_of}
use Rattle.cop_eds.specs.Tickets.{AreTickets}
use Rattle.cop_eds.proofs.ValueLemmas.{value_here}
use Rattle.cop_eds.proofs.sections.Sections.value_at.Goals as goal

pub returns-in_ok-value-in-Pair : goal.returns-in_ok-value-in-Pair
returns-in_ok-value-in-Pair c =
    let text = c.self.inside.source.now in
    let lines = c.lines-lines.result.now in
    let all = c.lines-lines.ensures in
    let tickets : AreTickets text lines c.self.inside.bits c.self.inside.tickets.items = rw (all, ← c.self.view_is, ← c.self.invariant.all) c.self.invariant.ticketed in
    let whole : lines ≡ lines_of text = all ∙ ap lines_of (sym c.self.view_is) in
    let at = slice_get-get_or lines c.args.near _ c.if-near-lines.false in
    rw (← c.self.view_is) (value_here text lines c.self.inside.bits c.self.inside.tickets.items c.args.section c.args.key.now c.args.near _ _ _
    tickets (c.self.invariant.by_number c.if-not-self.false) whole at c.in-Pair.is c.if-line-section.false c.text_of.ensures c.in_ok-value-in-Pair.ensures)
