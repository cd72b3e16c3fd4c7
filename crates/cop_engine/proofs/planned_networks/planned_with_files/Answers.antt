use Rattle.cop_net.specs.Network.{accepted}
use Rattle.cop_engine.proofs.DcfLemmas.{have_texts}
use Rattle.cop_engine.proofs.planned_networks.planned_with_files.Goals as goal

pub outcome_files-requires-clause-texts : goal.outcome_files-requires-clause-texts
outcome_files-requires-clause-texts c =
    rw (c.parts.ensures.network, c.in_ok-planned.ensures.network, c.in_ok-network.ensures.tables.0)
    (have_texts c.args.asked.now.rates c.args.nodes.now c.args.pdos.now _ (accepted c.in_ok-network.network) c.in_ok-network.ensures.exact)
