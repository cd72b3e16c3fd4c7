use Rattle.std.proofs.Common.{arith}
use Rattle.cop_eds.proofs.TicketLemmas.{all_below, all_above}
use Rattle.cop_eds.proofs.tickets.count_between.Goals as goal

pub loop-low-preserved-then-tickets-middle : goal.loop-low-preserved-then-tickets-middle
loop-low-preserved-then-tickets-middle c = record {
  around = (all_below c.args.tickets.now c.args.word _ _ c.requires.ordered (omega (arith, c.loop-low.invariant.bound)) c.if-tickets-middle.true, c.loop-low.invariant.around.1);
  order = omega arith;
  bound = c.loop-low.invariant.bound;
}

pub loop-low-preserved : goal.loop-low-preserved
loop-low-preserved c = record {
  around = (c.loop-low.invariant.around.0, all_above c.args.tickets.now c.args.word _ _ c.requires.ordered (omega (arith, c.loop-low.invariant.bound)) c.if-tickets-middle.false);
  order = omega arith;
  bound = omega (arith, c.loop-low.invariant.bound);
}
