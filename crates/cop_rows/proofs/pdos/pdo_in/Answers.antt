use Rattle.cop_rows.proofs.RangeLemmas.{consumers_ok}
use Rattle.cop_rows.proofs.pdos.pdo_in.Goals as goal

pub returns-clause-ranges : goal.returns-clause-ranges
returns-clause-ranges c =
    let r = c.in_ok-numbers.ensures.ranges in
    record {
      node_least = r.node_least;
      node_most = r.node_most;
      tpdo_least = r.tpdo_least;
      tpdo_most = r.tpdo_most;
      period = r.period;
      jitter_most = r.jitter_most;
      deadline_least = r.deadline_least;
      deadline_most = r.deadline_most;
      consumers = consumers_ok c.field.result.now c.in_ok-consumers.consumers c.in_ok-consumers.ensures;
    }
