use Rattle.std.proofs.Common.{◌<◌, refl, sym, ap, ◌∙◌, subst, All, inl, inr}
use Rattle.std.specs.List.{AllPairs}
use Rattle.cop_engine.proofs.BootLemmas.{IsUpTo}
use Rattle.cop_commission.proofs.CommissioningLemmas.{meant_low, meant_rise}
use Rattle.cop_commission.specs.Told.{told_manager}
use Rattle.cop_commission.specs.Commissioning.{way_of, settings_for}
use Rattle.cop_commission.proofs.FailureLemmas.{on_err, session_stops_so, session_fails_so, whole_so, unrestored_so, booting_fails_so, booting_stops_so, boot_fails_so, boot_stops_so}
use Rattle.cop_commission.proofs.commissioning.commission_nodes.Goals as goal

pub told_manager-requires-clause-nodes : goal.told_manager-requires-clause-nodes
told_manager-requires-clause-nodes g c = subst (All (IsUpTo 127)) (sym c.requires.meant) (meant_low c.args.network.now c.args.approach.reach.only)

pub told_manager-requires-clause-rise : goal.told_manager-requires-clause-rise
told_manager-requires-clause-rise g c = subst (AllPairs (λ node later. node < later)) (sym c.requires.meant) (meant_rise c.args.network.now c.args.approach.reach.only)

pub returns-in_err-told-clause-short : goal.returns-in_err-told-clause-short
returns-in_err-told-clause-short g c =
    on_err _ _ (inr (inl (session_stops_so g.P.Port.reads g.P.Port.writes g.P.Port.asks _ (way_of c.args.network.now c.args.plan.now.rate c.args.plan.now.ids c.args.nodes.now c.args.approach) c.args.nodes.now _ _ _ _ _ _ c.in_ok-bus.ensures c.in_ok-questions_for.ensures c.in_ok-restores_for.ensures c.in_ok-off_questions.ensures c.args.port.now c.run_session.new.port c.in_err-told.ensures.short)))

pub returns-in_err-manager-in-Told-clause-short : goal.returns-in_err-manager-in-Told-clause-short
returns-in_err-manager-in-Told-clause-short g c =
    on_err _ _ (inr (inr (inr (c.in-Told.told.items, c.run_session.new.port, (whole_so g.P.Port.reads g.P.Port.writes g.P.Port.asks _ (way_of c.args.network.now c.args.plan.now.rate c.args.plan.now.ids c.args.nodes.now c.args.approach) c.args.nodes.now _ _ _ _ _ _ c.in_ok-bus.ensures c.in_ok-questions_for.ensures c.in_ok-restores_for.ensures c.in_ok-off_questions.ensures c.args.port.now c.run_session.new.port c.in-Told.told.items (rw c.in-Told.is at c.in_ok-told.ensures.session)), inl refl))))

pub returns-in_err-settings-in-Told-clause-short : goal.returns-in_err-settings-in-Told-clause-short
returns-in_err-settings-in-Told-clause-short g c =
    on_err _ _ (inr (inr (inr (c.in-Told.told.items, c.run_session.new.port, (whole_so g.P.Port.reads g.P.Port.writes g.P.Port.asks _ (way_of c.args.network.now c.args.plan.now.rate c.args.plan.now.ids c.args.nodes.now c.args.approach) c.args.nodes.now _ _ _ _ _ _ c.in_ok-bus.ensures c.in_ok-questions_for.ensures c.in_ok-restores_for.ensures c.in_ok-off_questions.ensures c.args.port.now c.run_session.new.port c.in-Told.told.items (rw c.in-Told.is at c.in_ok-told.ensures.session)), inl refl))))

pub returns-in-Told-clause-failed : goal.returns-in-Told-clause-failed
returns-in-Told-clause-failed g c =
    boot_fails_so g.P.Port.reads g.P.Port.writes g.P.Port.asks g.P.Port.fails c.args.network.now c.args.plan.now.ids c.args.nodes.now (way_of c.args.network.now c.args.plan.now.rate c.args.plan.now.ids c.args.nodes.now c.args.approach) c.args.approach.identify c.args.approach.restore c.args.approach.store c.in-Told.told.items c.args.port.now c.run_session.new.port _ c.boot_nodes.result (whole_so g.P.Port.reads g.P.Port.writes g.P.Port.asks _ (way_of c.args.network.now c.args.plan.now.rate c.args.plan.now.ids c.args.nodes.now c.args.approach) c.args.nodes.now _ _ _ _ _ _ c.in_ok-bus.ensures c.in_ok-questions_for.ensures c.in_ok-restores_for.ensures c.in_ok-off_questions.ensures c.args.port.now c.run_session.new.port c.in-Told.told.items (rw c.in-Told.is at c.in_ok-told.ensures.session))
    (booting_fails_so g.P.Port.reads g.P.Port.writes g.P.Port.asks g.P.Port.fails _ (way_of c.args.network.now c.args.plan.now.rate c.args.plan.now.ids c.args.nodes.now c.args.approach) _ _ c.args.nodes.now _ _ c.in_ok-bus.ensures (c.in_ok-manager-in-Told.ensures ∙ ap (λ told. told_manager c.args.approach.boot_limit c.args.network.now c.args.plan.now.ids told c.args.nodes.now) c.deref.ensures.value) (c.deref-in-Told-2.ensures.value ∙ c.in_ok-settings-in-Told.ensures ∙ ap (λ told. settings_for c.args.approach.store c.args.network.now c.args.plan.now.ids told c.args.nodes.now) c.deref-in-Told.ensures.value) c.run_session.new.port _ c.boot_nodes.result c.boot_nodes.ensures.failed)

pub returns-in-Told-clause-short : goal.returns-in-Told-clause-short
returns-in-Told-clause-short g c =
    boot_stops_so g.P.Port.reads g.P.Port.writes g.P.Port.asks g.P.Port.fails c.args.network.now c.args.plan.now.ids c.args.nodes.now (way_of c.args.network.now c.args.plan.now.rate c.args.plan.now.ids c.args.nodes.now c.args.approach) c.args.approach.identify c.args.approach.restore c.args.approach.store c.in-Told.told.items c.args.port.now c.run_session.new.port c.boot_nodes.new.port c.boot_nodes.result (whole_so g.P.Port.reads g.P.Port.writes g.P.Port.asks _ (way_of c.args.network.now c.args.plan.now.rate c.args.plan.now.ids c.args.nodes.now c.args.approach) c.args.nodes.now _ _ _ _ _ _ c.in_ok-bus.ensures c.in_ok-questions_for.ensures c.in_ok-restores_for.ensures c.in_ok-off_questions.ensures c.args.port.now c.run_session.new.port c.in-Told.told.items (rw c.in-Told.is at c.in_ok-told.ensures.session))
    (booting_stops_so g.P.Port.reads g.P.Port.writes g.P.Port.asks g.P.Port.fails _ (way_of c.args.network.now c.args.plan.now.rate c.args.plan.now.ids c.args.nodes.now c.args.approach) _ _ c.args.nodes.now _ _ c.in_ok-bus.ensures (c.in_ok-manager-in-Told.ensures ∙ ap (λ told. told_manager c.args.approach.boot_limit c.args.network.now c.args.plan.now.ids told c.args.nodes.now) c.deref.ensures.value) (c.deref-in-Told-2.ensures.value ∙ c.in_ok-settings-in-Told.ensures ∙ ap (λ told. settings_for c.args.approach.store c.args.network.now c.args.plan.now.ids told c.args.nodes.now) c.deref-in-Told.ensures.value) c.run_session.new.port c.boot_nodes.new.port c.boot_nodes.result c.boot_nodes.ensures.short)

pub returns-clause-failed : goal.returns-clause-failed
returns-clause-failed g c =
    inl (c.nothing.ensures, session_fails_so g.P.Port.reads g.P.Port.writes g.P.Port.asks _ (way_of c.args.network.now c.args.plan.now.rate c.args.plan.now.ids c.args.nodes.now c.args.approach) c.args.nodes.now _ _ _ _ _ _ c.in_ok-bus.ensures c.in_ok-questions_for.ensures c.in_ok-restores_for.ensures c.in_ok-off_questions.ensures g.P.Port.fails c.args.port.now c.run_session.new.port (rw c.in-Failed.is at c.in_ok-told.ensures.failed))

pub returns-in_err-restoring_answer-in-Unrestored-clause-short : goal.returns-in_err-restoring_answer-in-Unrestored-clause-short
returns-in_err-restoring_answer-in-Unrestored-clause-short g c =
    on_err _ _ (inr (inr (inl (c.in-Unrestored.exchanges.items, inr (unrestored_so g.P.Port.reads g.P.Port.writes g.P.Port.asks _ (way_of c.args.network.now c.args.plan.now.rate c.args.plan.now.ids c.args.nodes.now c.args.approach) c.args.nodes.now _ _ _ _ _ _ c.in_ok-bus.ensures c.in_ok-questions_for.ensures c.in_ok-restores_for.ensures c.in_ok-off_questions.ensures c.args.port.now c.run_session.new.port c.in-Unrestored.exchanges.items (rw c.in-Unrestored.is at c.in_ok-told.ensures.session))))))
