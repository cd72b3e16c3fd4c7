use Rattle.std.proofs.Common.{refl}
use Rattle.cop_net.proofs.ThroughLemmas.{tested_is}
use Rattle.cop_net.proofs.fixed.through.Goals as goal

pub returns-in_ok-through-in-Some : goal.returns-in_ok-through-in-Some
returns-in_ok-through-in-Some c =
    rw (c.in-Some.is, c.in_ok-through-in-Some.ensures, tested_is c.rarity.result c.in-Some.row c.args.set c.rarity.ensures) refl
