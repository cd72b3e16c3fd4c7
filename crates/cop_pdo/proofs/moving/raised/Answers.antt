use Rattle.cop_pdo.proofs.MovingLemmas.{raised_few}
use Rattle.cop_pdo.proofs.moving.raised.Goals as goal

pub overflow_shl-result : goal.overflow_shl-result
overflow_shl-result c = raised_few c.args.number c.args.bits c.if-number-eq0.false c.requires
