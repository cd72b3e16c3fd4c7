use Rattle.cop_engine.specs.Faults.{fault_of}
use Rattle.cop_engine.proofs.NetworkLemmas.{nodes_explain, pdos_explain, network_explains, files_are, err_is}
use Rattle.cop_engine.proofs.GuaranteeLemmas.{guaranteed, are_printed}
use Rattle.cop_engine.proofs.plans.plan_bytes.Goals as goal

pub returns-in_err-nodes : goal.returns-in_err-nodes
returns-in_err-nodes c =
    err_is c.from_residual.result _ _ (fault_of c.in_err-nodes.field-0.0) c.from_residual.ensures.1
    (nodes_explain c.args.asked.now.rates c.args.nodes.now c.args.pdos.now _ c.in_err-nodes.field-0.0 c.in_err-nodes.ensures)

pub returns-in_err-pdos : goal.returns-in_err-pdos
returns-in_err-pdos c =
    err_is c.from_residual-in_err-pdos.result _ _ (fault_of c.in_err-pdos.field-0.0) c.from_residual-in_err-pdos.ensures.1
    (pdos_explain c.args.asked.now.rates c.args.nodes.now c.args.pdos.now _ c.in_ok-nodes.nodes c.in_err-pdos.field-0.0 c.in_ok-nodes.ensures c.in_err-pdos.ensures)

pub returns-in_err-planned : goal.returns-in_err-planned
returns-in_err-planned c =
    err_is c.from_residual-in_err-planned.result _ _ (fault_of c.in_err-planned.field-0.0) c.from_residual-in_err-planned.ensures.1
    (network_explains c.args.asked.now.rates c.args.nodes.now c.args.pdos.now _ c.in_ok-nodes.nodes c.in_ok-pdos.pdos c.in_err-planned.field-0.0 c.in_ok-nodes.ensures c.in_ok-pdos.ensures c.in_err-planned.ensures.planned)

pub returns : goal.returns
returns c =
    let f = files_are c.args.asked.now c.args.nodes.now c.args.pdos.now _ c.in_ok-nodes.nodes c.in_ok-pdos.pdos _ _ c.in_ok-nodes.ensures c.in_ok-pdos.ensures c.in_ok-planned.ensures.planned c.in_ok-planned.ensures.files in
    record {
      exact = f;
      guaranteed = guaranteed f.network.net f.network.said.network f.outcome f.network.planned;
      printed = are_printed f.network.net f.network.said.network f.outcome f.written.verdicts f.network.planned f.written.judged;
    }
