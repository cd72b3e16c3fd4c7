use Rattle.std.proofs.Common.{arith}
use Rattle.cop_rta.proofs.CeilLemmas.{split_time}
use Rattle.cop_rta.proofs.demands.instances.Goals as goal

pub returns-in-None : goal.returns-in-None
returns-in-None c =
    rw c.div_ceil-in-None.ensures (split_time c.args.time c.args.more c.args.period (omega (arith, c.requires.period.0)))
