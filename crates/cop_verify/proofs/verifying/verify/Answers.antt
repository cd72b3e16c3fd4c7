use Rattle.std.proofs.Common.{inr}
use Rattle.cop_engine.specs.Faults.{fault_of}
use Rattle.cop_engine.proofs.NetworkLemmas.{nodes_explain, pdos_explain, network_explains, planning_is, err_is}
use Rattle.cop_commission.proofs.FailureLemmas.{on_err}
use Rattle.cop_verify.proofs.verifying.verify.Goals as goal

pub returns-in_err-nodes-clause-verified : goal.returns-in_err-nodes-clause-verified
returns-in_err-nodes-clause-verified g c =
    err_is c.from_residual.result _ _ (fault_of c.in_err-nodes.field-0.0) c.from_residual.ensures.1
    (nodes_explain c.args.asked.now.rates c.args.nodes.now c.args.pdos.now _ c.in_err-nodes.field-0.0 c.in_err-nodes.ensures)

pub returns-in_err-pdos-clause-verified : goal.returns-in_err-pdos-clause-verified
returns-in_err-pdos-clause-verified g c =
    err_is c.from_residual-in_err-pdos.result _ _ (fault_of c.in_err-pdos.field-0.0) c.from_residual-in_err-pdos.ensures.1
    (pdos_explain c.args.asked.now.rates c.args.nodes.now c.args.pdos.now _ c.in_ok-nodes.nodes c.in_err-pdos.field-0.0 c.in_ok-nodes.ensures c.in_err-pdos.ensures)

pub returns-in_err-planned-clause-verified : goal.returns-in_err-planned-clause-verified
returns-in_err-planned-clause-verified g c =
    err_is c.from_residual-in_err-planned.result _ _ (fault_of c.in_err-planned.field-0.0) c.from_residual-in_err-planned.ensures.1
    (network_explains c.args.asked.now.rates c.args.nodes.now c.args.pdos.now _ c.in_ok-nodes.nodes c.in_ok-pdos.pdos c.in_err-planned.field-0.0 c.in_ok-nodes.ensures c.in_ok-pdos.ensures c.in_err-planned.ensures)

pub returns-clause-verified : goal.returns-clause-verified
unfolding planning_is
returns-clause-verified g c =
    record {
      outcome = c.in_ok-planned.planned.outcome;
      network = planning_is c.args.asked.now c.args.nodes.now c.args.pdos.now _ c.in_ok-nodes.nodes c.in_ok-pdos.pdos c.in_ok-planned.planned c.in_ok-nodes.ensures c.in_ok-pdos.ensures c.in_ok-planned.ensures;
      met = c.in_ok-verify_planned.ensures.verified;
    }

pub returns-in_err-verify_planned-clause-short : goal.returns-in_err-verify_planned-clause-short
unfolding planning_is
returns-in_err-verify_planned-clause-short g c =
    on_err _ _ (inr (record {
      outcome = c.in_ok-planned.planned.outcome;
      network = planning_is c.args.asked.now c.args.nodes.now c.args.pdos.now _ c.in_ok-nodes.nodes c.in_ok-pdos.pdos c.in_ok-planned.planned c.in_ok-nodes.ensures c.in_ok-pdos.ensures c.in_ok-planned.ensures;
      stops = c.in_err-verify_planned.ensures.short;
    }))
