use Rattle.std.proofs.Common.{arith}
use Rattle.cop_pdo.proofs.UnpackLemmas.{lowered_away}
use Rattle.cop_pdo.proofs.moving.lowered.Goals as goal

pub returns-else-bits-lt64 : goal.returns-else-bits-lt64
returns-else-bits-lt64 c = lowered_away c.args.number c.args.bits (omega arith) c.if-bits-lt64.false
