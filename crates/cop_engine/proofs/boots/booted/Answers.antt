use Rattle.std.proofs.Common.{◌<◌, ◌≤◌, ◌∙◌, ℕ, List, length, map, sym, ap, subst, All}
use Rattle.std.specs.List.{AllPairs}
use Rattle.cop_engine.specs.Turns.{turns_drawn}
use Rattle.cop_engine.specs.Boots.{manager_of, device_at}
use Rattle.cop_engine.proofs.BootLemmas.{IsUpTo, nodes_low, nodes_rise, nodes_few, booted_so}
use Rattle.cop_engine.proofs.BootedLemmas.{pdo_ids, can_boot, plan_of}
use Rattle.cop_engine.proofs.boots.booted.Goals as goal

pub manager_of-requires-clause-nodes : goal.manager_of-requires-clause-nodes
manager_of-requires-clause-nodes c = subst (All (IsUpTo 127)) (sym (c.deref.ensures.value ∙ c.in_ok-nodes.ensures)) (nodes_low c.args.network.now 127)

pub manager_of-requires-clause-rise : goal.manager_of-requires-clause-rise
manager_of-requires-clause-rise c = subst (AllPairs (λ node later. node < later)) (sym (c.deref.ensures.value ∙ c.in_ok-nodes.ensures)) (nodes_rise c.args.network.now 127)

pub devices_of-requires : goal.devices_of-requires
devices_of-requires c = subst (All (IsUpTo 127)) (sym (c.deref-2.ensures.value ∙ c.in_ok-nodes.ensures)) (nodes_low c.args.network.now 127)

pub boot_by_drawn-requires-clause-nodes : goal.boot_by_drawn-requires-clause-nodes
boot_by_drawn-requires-clause-nodes c = subst (λ (xs : List ℕ). length xs ≤ 127) (sym (c.deref-3.ensures.value ∙ c.in_ok-nodes.ensures)) (nodes_few c.args.network.now 127)

pub returns : goal.returns
returns c =
    let net = c.args.network.now in
    let ids = c.args.plan.now.ids in
    let range = pdo_ids net.equipment.rates net.set (length net.rows) c.args.plan.now c.requires.planned in
    booted_so c.args.seed net ids c.in_ok-nodes.nodes.items c.deref-4.result.now c.in_ok-manager.manager _ c.deref_mut.result.now _ _ c.boot_answer.result
    c.in_ok-nodes.ensures (c.in_ok-manager.ensures ∙ ap (manager_of net ids) c.deref.ensures.value) (c.deref_mut.ensures.value ∙ c.in_ok-devices.ensures ∙ ap (λ ns. map (device_at net) ns) c.deref-2.ensures.value)
    (ap (turns_drawn c.args.seed) c.deref-3.ensures.value) c.deref-4.ensures.value c.in_ok-boot_by_drawn.ensures.runs
    (can_boot net c.requires.network ids range) c.in_ok-boot_by_drawn.ensures.configures c.in_ok-boot_by_drawn.ensures.in_time c.in_ok-boot_by_drawn.ensures.exist
    (plan_of net c.requires.network ids range) c.boot_answer.ensures
