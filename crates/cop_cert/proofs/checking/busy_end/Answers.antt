use Rattle.std.proofs.Common.{arith}
use Rattle.cop_rta.specs.Test.{place_of}
use Rattle.cop_cert.proofs.ClimbLemmas.{busy_list_end, all_fit}
use Rattle.cop_cert.proofs.checking.busy_end.Goals as goal

pub returns : goal.returns
returns c =
    busy_list_end (place_of c.args.busy.now) c.args.numbers.now c.climb.result
    (omega (arith, c.if-first_of-ne1.false, c.first_of.ensures))
    (all_fit c.args.numbers.now c.type_inv.numbers)
    c.climb.ensures
