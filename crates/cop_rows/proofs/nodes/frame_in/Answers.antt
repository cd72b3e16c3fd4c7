use Rattle.cop_rows.proofs.nodes.frame_in.Goals as goal

pub returns-clause-ranges : goal.returns-clause-ranges
returns-clause-ranges c = record {
  nobodys = c.in_ok-node.ensures.nobodys;
  node_most = c.in_ok-node.ensures.most;
  period = c.in_ok-period.ensures.range;
  milliseconds = c.in_ok-period.ensures.milliseconds;
  jitter = c.in_ok-jitter.ensures.range.1;
  deadline = c.in_ok-deadline.ensures.range;
}
