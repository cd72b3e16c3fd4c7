use Rattle.std.proofs.Common.{length}
use Rattle.cop_dcf.proofs.SettingsLemmas.{ids_small}
use Rattle.cop_commission.proofs.ToldLemmas.{can_manage}
use Rattle.cop_commission.proofs.told.told_manager.Goals as goal

pub with_limit-requires : goal.with_limit-requires
with_limit-requires c =
    let net = c.args.network.now in
    can_manage c.args.limit net c.args.plan.now.ids c.args.told.now c.in_ok-plan_of.plan_of.entries c.args.nodes.now c.requires.network
    (ids_small net.equipment.rates net.set (length net.rows) c.args.plan.now c.requires.planned) c.requires.nodes c.in_ok-plan_of.ensures
