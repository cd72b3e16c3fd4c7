use Rattle.cop_net.proofs.NetworkLemmas.{device_nodes}
use Rattle.cop_net.proofs.making.device_rows.Goals as goal

pub returns-clause-nodes : goal.returns-clause-nodes
returns-clause-nodes c = rw c.devices.ensures.rows (device_nodes c.args.nodes.now.devices c.devices.ensures.table.nodes)
