use Rattle.std.proofs.Common.{◌-◌, arith}
use Rattle.cop_eds.proofs.TicketLemmas.{all_below, is_below}
use Rattle.cop_eds.proofs.tickets.are_below.Goals as goal

pub returns-then-place-tickets : goal.returns-then-place-tickets
returns-then-place-tickets c = λ less k d low high.
    all_below c.args.tickets.now c.args.word (c.args.place - 1) _ c.requires (omega arith) (is_below _ _ less) k d low (omega arith)
