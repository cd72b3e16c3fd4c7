use Rattle.std.proofs.Common.{arith}
use Rattle.cop_rta.specs.Test.{place_of}
use Rattle.cop_cert.proofs.ClimbLemmas.{queue_list_end, all_fit}
use Rattle.cop_cert.proofs.checking.queue_end.Goals as goal

pub returns : goal.returns
returns c =
    queue_list_end (place_of c.args.busy.now) c.args.q c.args.numbers.now c.climb.result
    (omega (arith, c.if-first-start_of.false, c.from-first.ensures, c.first_of.ensures, c.start_of.ensures))
    (all_fit c.args.numbers.now c.type_inv.numbers)
    (rw c.queueing.ensures at c.climb.ensures)
