use Rattle.std.proofs.Common.{ap, ◌∙◌}
use Rattle.cop_engine.specs.Boots.{boot_said}
use Rattle.cop_engine.specs.Faults.{fault_of}
use Rattle.cop_engine.proofs.NetworkLemmas.{nodes_explain, pdos_explain, network_explains, planning_is, err_is}
use Rattle.cop_engine.proofs.boots.boot_bytes.Goals as goal

pub returns-in_err-nodes : goal.returns-in_err-nodes
returns-in_err-nodes c =
    err_is c.from_residual.result _ _ (fault_of c.in_err-nodes.field-0.0) c.from_residual.ensures.1
    (nodes_explain c.args.asked.now.rates c.args.nodes.now c.args.pdos.now _ c.in_err-nodes.field-0.0 c.in_err-nodes.ensures)

pub returns-in_err-pdos : goal.returns-in_err-pdos
returns-in_err-pdos c =
    err_is c.from_residual-in_err-pdos.result _ _ (fault_of c.in_err-pdos.field-0.0) c.from_residual-in_err-pdos.ensures.1
    (pdos_explain c.args.asked.now.rates c.args.nodes.now c.args.pdos.now _ c.in_ok-nodes.nodes c.in_err-pdos.field-0.0 c.in_ok-nodes.ensures c.in_err-pdos.ensures)

pub returns-in_err-planned : goal.returns-in_err-planned
returns-in_err-planned c =
    err_is c.from_residual-in_err-planned.result _ _ (fault_of c.in_err-planned.field-0.0) c.from_residual-in_err-planned.ensures.1
    (network_explains c.args.asked.now.rates c.args.nodes.now c.args.pdos.now _ c.in_ok-nodes.nodes c.in_ok-pdos.pdos c.in_err-planned.field-0.0 c.in_ok-nodes.ensures c.in_ok-pdos.ensures c.in_err-planned.ensures)

pub returns : goal.returns
unfolding planning_is
returns c =
    record {
      outcome = c.in_ok-planned.planned.outcome;
      network = planning_is c.args.asked.now c.args.nodes.now c.args.pdos.now _ c.in_ok-nodes.nodes c.in_ok-pdos.pdos c.in_ok-planned.planned c.in_ok-nodes.ensures c.in_ok-pdos.ensures c.in_ok-planned.ensures;
      answer = c.in_ok-answer.answer;
      booted = c.in_ok-answer.ensures;
      says = c.in_ok-boot_text.ensures ∙ ap boot_said c.as_ref.ensures.value;
    }
