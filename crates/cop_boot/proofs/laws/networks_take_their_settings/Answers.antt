use Rattle.std.proofs.Common.{List, sym, subst, Option}
use Rattle.cop_dict.specs.Find.{Entry}
use Rattle.cop_net.specs.Heartbeats.{heartbeat_of}
use Rattle.cop_dcf.specs.Identifiers.{id_at}
use Rattle.cop_dcf.specs.Settings.{settings_by, asked_of}
use Rattle.cop_dcf.proofs.AskedLemmas.{node_taken}
use Rattle.cop_setup.specs.InTurn.{AcceptsInTurn}
use Rattle.cop_boot.proofs.NetworkAdmits.{network_admits}
use Rattle.cop_boot.proofs.PlanInTurn.{plan_accepted}
use Rattle.cop_boot.proofs.laws.networks_take_their_settings.Goals as goal

pub returns-clause-admitted : goal.returns-clause-admitted
returns-clause-admitted c = λ net ids node dict is range its. network_admits net is ids range node dict its

pub returns-clause-accepted : goal.returns-clause-accepted
returns-clause-accepted c = λ net ids node dict is range its.
    let time = heartbeat_of net.nodes.frames node in
    subst (λ (o : Option (List Entry)). AcceptsInTurn dict (settings_by (asked_of net node) (id_at net.rows ids node) time o)) (sym its)
    (plan_accepted dict (asked_of net node) (id_at net.rows ids node) time (network_admits net is ids range node dict its) (node_taken net node dict is its))
