use Rattle.cop_rta.specs.Test.{place_of}
use Rattle.cop_cert.proofs.MakeLemmas.{busy_above, busy_solved}
use Rattle.cop_cert.proofs.making.evidence_of.Goals as goal

pub queue_list-requires-clause-late : goal.queue_list-requires-clause-late
queue_list-requires-clause-late c = (c.in-Late.response, rw c.in-Late.is at c.requires.judged)

pub returns-in_ok-busy-in-Long : goal.returns-in_ok-busy-in-Long
returns-in_ok-busy-in-Long c =
    rw c.in_ok-busy-in-Long.ensures (busy_above (place_of c.args.busy.now) c.args.numbers.now c.requires.chain (rw c.in-Long.is at c.requires.judged))

pub returns-in_ok-busy-in-Late : goal.returns-in_ok-busy-in-Late
returns-in_ok-busy-in-Late c =
    let judged = rw c.in-Late.is at c.requires.judged in
    record {
      busy_time = rw c.in_ok-busy-in-Late.ensures
          (busy_solved (place_of c.args.busy.now) c.args.numbers.now judged.time c.requires.chain judged.busy judged.within);
      queue_of = c.in_ok-queue-in-Late.ensures;
    }
