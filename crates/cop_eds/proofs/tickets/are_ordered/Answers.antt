use Rattle.std.proofs.Common.{arith, sym, ◌∙◌}
use Rattle.cop_eds.proofs.TicketLemmas.{ordered_more}
use Rattle.cop_eds.proofs.tickets.are_ordered.Goals as goal

pub loop-i-preserved : goal.loop-i-preserved
loop-i-preserved c =
    ordered_more c.args.tickets.now c.loop-i.i (record { word = 0; line = 0 }) (omega arith) c.loop-i-test.true (sym c.is_ahead.ensures ∙ c.if-not-is_ahead.false) c.loop-i.invariant
