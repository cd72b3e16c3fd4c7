use Rattle.std.proofs.Common.{arith}
use Rattle.cop_pdo.proofs.MovingLemmas.{wide_rest}
use Rattle.cop_pdo.proofs.moving.lowest.Goals as goal

pub returns-else-bits-lt64 : goal.returns-else-bits-lt64
returns-else-bits-lt64 c = wide_rest c.args.number c.args.bits (omega arith) c.if-bits-lt64.false
