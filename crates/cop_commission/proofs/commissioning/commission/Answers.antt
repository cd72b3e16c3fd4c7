use Rattle.std.proofs.Common.{inr}
use Rattle.cop_net.specs.Devices.{handed_in}
use Rattle.cop_commission.specs.Commissioning.{FailsFor, CommissioningFails}
use Rattle.cop_engine.specs.Faults.{fault_of}
use Rattle.cop_engine.proofs.NetworkLemmas.{nodes_explain, pdos_explain, network_explains, planning_is, err_is}
use Rattle.cop_commission.proofs.FailureLemmas.{on_err, if_failed_map}
use Rattle.cop_commission.proofs.commissioning.commission.Goals as goal

pub returns-in_err-nodes-clause-commissioned : goal.returns-in_err-nodes-clause-commissioned
returns-in_err-nodes-clause-commissioned g c =
    err_is c.from_residual.result _ _ (fault_of c.in_err-nodes.field-0.0) c.from_residual.ensures.1
    (nodes_explain c.args.asked.now.rates c.args.nodes.now c.args.pdos.now _ c.in_err-nodes.field-0.0 c.in_err-nodes.ensures)

pub returns-in_err-pdos-clause-commissioned : goal.returns-in_err-pdos-clause-commissioned
returns-in_err-pdos-clause-commissioned g c =
    err_is c.from_residual-in_err-pdos.result _ _ (fault_of c.in_err-pdos.field-0.0) c.from_residual-in_err-pdos.ensures.1
    (pdos_explain c.args.asked.now.rates c.args.nodes.now c.args.pdos.now _ c.in_ok-nodes.nodes c.in_err-pdos.field-0.0 c.in_ok-nodes.ensures c.in_err-pdos.ensures)

pub returns-in_err-planned-clause-commissioned : goal.returns-in_err-planned-clause-commissioned
returns-in_err-planned-clause-commissioned g c =
    err_is c.from_residual-in_err-planned.result _ _ (fault_of c.in_err-planned.field-0.0) c.from_residual-in_err-planned.ensures.1
    (network_explains c.args.asked.now.rates c.args.nodes.now c.args.pdos.now _ c.in_ok-nodes.nodes c.in_ok-pdos.pdos c.in_err-planned.field-0.0 c.in_ok-nodes.ensures c.in_ok-pdos.ensures c.in_err-planned.ensures)

pub returns-clause-commissioned : goal.returns-clause-commissioned
unfolding planning_is
returns-clause-commissioned g c =
    record {
      outcome = c.in_ok-planned.planned.outcome;
      network = planning_is c.args.asked.now c.args.nodes.now c.args.pdos.now _ c.in_ok-nodes.nodes c.in_ok-pdos.pdos c.in_ok-planned.planned c.in_ok-nodes.ensures c.in_ok-pdos.ensures c.in_ok-planned.ensures;
      met = c.in_ok-commission_planned.ensures.commissioned;
    }

pub returns-clause-failed : goal.returns-clause-failed
unfolding planning_is
returns-clause-failed g c =
    if_failed_map c.in_ok-commission_planned.field-0
    (λ answer. FailsFor g.P.Port.reads g.P.Port.writes g.P.Port.asks g.P.Port.fails c.in_ok-planned.planned.net c.in_ok-planned.planned.outcome c.args.approach c.args.port.now c.commission_planned.new.port answer)
    (λ answer. CommissioningFails g.P.Port.reads g.P.Port.writes g.P.Port.asks g.P.Port.fails c.args.asked.now c.args.nodes.now c.args.pdos.now (handed_in c.args.eds_files.now) c.args.approach c.args.port.now c.commission_planned.new.port answer)
    (λ answer b. record {
      outcome = c.in_ok-planned.planned.outcome;
      network = planning_is c.args.asked.now c.args.nodes.now c.args.pdos.now _ c.in_ok-nodes.nodes c.in_ok-pdos.pdos c.in_ok-planned.planned c.in_ok-nodes.ensures c.in_ok-pdos.ensures c.in_ok-planned.ensures;
      failed = b;
    }) c.in_ok-commission_planned.ensures.failed

pub returns-in_err-commission_planned-clause-short : goal.returns-in_err-commission_planned-clause-short
unfolding planning_is
returns-in_err-commission_planned-clause-short g c =
    on_err _ _ (inr (record {
      outcome = c.in_ok-planned.planned.outcome;
      network = planning_is c.args.asked.now c.args.nodes.now c.args.pdos.now _ c.in_ok-nodes.nodes c.in_ok-pdos.pdos c.in_ok-planned.planned c.in_ok-nodes.ensures c.in_ok-pdos.ensures c.in_ok-planned.ensures;
      stops = c.in_err-commission_planned.ensures.short;
    }))
