use Rattle.std.proofs.Common.{◌≤◌, refl, arith}
use Rattle.cop_frame.specs.Rate.{ticks_of}
use Rattle.cop_rta.proofs.QueueLemmas.{ticks_pos}
use Rattle.cop_bus.proofs.Waits.{has-none}
use Rattle.cop_watch.proofs.Finished.{at-first}
use Rattle.cop_watch.proofs.watching.Watch.new.Goals as goal

pub returns : goal.returns
returns c =
    let tick : 1 ≤ ticks_of c.args.rate = (let p = ticks_pos c.args.rate in omega (arith, p)) in
    record {
      ticks = c.ticks_per_bit.ensures.ticks;
      set = refl;
      numbered = refl;
      knows = at-first (ticks_of c.args.rate) c.args.streams.now c.in_ok-no_events.field-0.items _ c.in_ok-new.field-0 c.new-2.result.items c.in_ok-rings.field-0.items c.new-3.result tick c.in_ok-new.ensures c.new-2.ensures.items c.in_ok-no_events.ensures c.in_ok-rings.ensures
          (has-none c.new-3.result (λ l. let e = c.new-3.ensures.len in omega (arith, e, l)));
    }
