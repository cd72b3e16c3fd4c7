use Rattle.cop_rta.proofs.MoreAbove.{busy_at-more, queueing_at-more}
use Rattle.cop_rta.proofs.laws.more_above_asks_no_less.Goals as goal

pub returns-clause-busy : goal.returns-clause-busy
returns-clause-busy c = busy_at-more

pub returns-clause-queueing : goal.returns-clause-queueing
returns-clause-queueing c = queueing_at-more
