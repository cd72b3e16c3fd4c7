use Rattle.std.proofs.Common.{length, subst}
use Rattle.cop_net.specs.Network.{IsNetwork, accepted}
use Rattle.cop_engine.specs.Checks.{AreLinesOf}
use Rattle.cop_engine.specs.Faults.{fault_of, fault_of_refusals}
use Rattle.cop_engine.proofs.NetworkLemmas.{nodes_explain, pdos_explain, network_explains, network_read, network_is, err_is, of_network, refusals_explain, check_is}
use Rattle.cop_engine.proofs.checks.check_bytes.Goals as goal

pub returns-in_err-nodes : goal.returns-in_err-nodes
returns-in_err-nodes c =
    err_is c.from_residual.result _ _ (fault_of c.in_err-nodes.field-0.0) c.from_residual.ensures.1
    (of_network c.args.wanted.now c.args.nodes.now c.args.pdos.now _ c.args.refusals.now c.in_err-nodes.field-0.0 (nodes_explain c.args.wanted.now c.args.nodes.now c.args.pdos.now _ c.in_err-nodes.field-0.0 c.in_err-nodes.ensures))

pub returns-in_err-pdos : goal.returns-in_err-pdos
returns-in_err-pdos c =
    err_is c.from_residual-in_err-pdos.result _ _ (fault_of c.in_err-pdos.field-0.0) c.from_residual-in_err-pdos.ensures.1
    (of_network c.args.wanted.now c.args.nodes.now c.args.pdos.now _ c.args.refusals.now c.in_err-pdos.field-0.0
    (pdos_explain c.args.wanted.now c.args.nodes.now c.args.pdos.now _ c.in_ok-nodes.nodes c.in_err-pdos.field-0.0 c.in_ok-nodes.ensures c.in_err-pdos.ensures))

pub returns-in_err-network : goal.returns-in_err-network
returns-in_err-network c =
    err_is c.from_residual-in_err-network.result _ _ (fault_of c.in_err-network.field-0.0) c.from_residual-in_err-network.ensures.1
    (of_network c.args.wanted.now c.args.nodes.now c.args.pdos.now _ c.args.refusals.now c.in_err-network.field-0.0
    (network_explains c.args.wanted.now c.args.nodes.now c.args.pdos.now _ c.in_ok-nodes.nodes c.in_ok-pdos.pdos c.in_err-network.field-0.0 c.in_ok-nodes.ensures c.in_ok-pdos.ensures c.in_err-network.ensures.exact))

pub returns-in_err-refusals : goal.returns-in_err-refusals
returns-in_err-refusals c =
    err_is c.from_residual-in_err-refusals.result _ _ (fault_of_refusals c.in_err-refusals.field-0.0) c.from_residual-in_err-refusals.ensures.1
    (refusals_explain c.args.wanted.now c.args.nodes.now c.args.pdos.now _ c.args.refusals.now (accepted c.in_ok-network.network) c.in_err-refusals.field-0.0
    (network_read c.args.wanted.now c.args.nodes.now c.args.pdos.now _ c.in_ok-nodes.nodes c.in_ok-pdos.pdos (accepted c.in_ok-network.network) c.in_ok-nodes.ensures c.in_ok-pdos.ensures c.in_ok-network.ensures.exact)
    c.in_err-refusals.ensures.read)

pub returns : goal.returns
returns c =
    let network = c.in_ok-network.network in
    let refusals = c.in_ok-refusals.refusals.items in
    let answered : AreLinesOf network.set (length network.rows) refusals c.in_ok-checks_text.field-0.items c.all_hold.result = record {
      answers = c.in_ok-answers.answers.items;
      checked = rw c.deref.ensures.value at c.in_ok-answers.ensures;
      lines_are = rw (c.deref-2.ensures.value, c.deref-3.ensures.value) at c.in_ok-checks_text.ensures;
      all_hold = rw c.deref-4.ensures.value at c.all_hold.ensures;
    } in
    check_is c.args.wanted.now c.args.nodes.now c.args.pdos.now _ network c.args.refusals.now c.in_ok-checks_text.field-0.items refusals c.all_hold.result
    (network_is c.args.wanted.now c.args.nodes.now c.args.pdos.now _ c.in_ok-nodes.nodes c.in_ok-pdos.pdos network c.in_ok-nodes.ensures c.in_ok-pdos.ensures
    c.in_ok-network.ensures.exact c.in_ok-network.ensures.tables.0 c.in_ok-network.ensures.tables.1 (subst IsNetwork c.network-2.view_is c.network-2.invariant.0))
    c.in_ok-refusals.ensures.read
    answered
