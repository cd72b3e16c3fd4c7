use Rattle.cop_net.proofs.NetworkLemmas.{timed}
use Rattle.cop_net.proofs.making.frame_rows.Goals as goal

pub returns-clause-timed : goal.returns-clause-timed
returns-clause-timed c = rw c.frames.ensures.rows (timed c.args.nodes.now c.frames.ensures.table)
