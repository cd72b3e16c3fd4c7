use Rattle.cop_eds.proofs.TicketLemmas.{all_above, is_at_most}
use Rattle.cop_eds.proofs.tickets.are_above.Goals as goal

pub returns : goal.returns
returns c = λ le. all_above c.args.tickets.now c.args.word c.args.place _ c.requires c.if-place-tickets.false (is_at_most _ _ le)
