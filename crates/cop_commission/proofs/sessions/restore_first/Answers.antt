use Rattle.std.proofs.Common.{ap, sym, ◌∙◌}
use Rattle.cop_commission.specs.Sessions.{Way}
use Rattle.cop_commission.proofs.FailureLemmas.{on_err, tells_fail_so, tells_stop_so}
use Rattle.cop_commission.proofs.sessions.restore_first.Goals as goal

pub returns-in_err-told-clause-short : goal.returns-in_err-told-clause-short
returns-in_err-told-clause-short g c =
    on_err _ _ (tells_stop_so g.P.Port.reads g.P.Port.writes g.P.Port.asks c.args.bus.now c.bus.inside.reach c.bus.inside.boot_limit c.args.nodes.now c.deref.result.now c.deref-3.result.now
    c.args.questions.now.restores.items c.deref-4.result.now c.args.questions.now.offs.items c.in-Some.exchanges.items c.deref-2.result.now
    c.args.port.now c.ask_all.new.port c.reset_restored.new.port c.reset_and_ask.new.port
    (ap (λ (w : Way). w.reach) c.bus.view_is) (ap (λ (w : Way). w.boot_limit) c.bus.view_is) c.deref.ensures.value c.deref-3.ensures.value c.deref-4.ensures.value c.deref-2.ensures.value
    (rw c.in-Some.is at c.in_ok-exchanges.ensures.asked) (sym c.has_untaken.ensures ∙ c.if-has_untaken.false) (c.reset_restored.ensures.resets c.if-not-reset_restored.false)
    c.in_err-told.ensures.short)

pub returns-clause-failed : goal.returns-clause-failed
returns-clause-failed g c =
    tells_fail_so g.P.Port.reads g.P.Port.writes g.P.Port.asks c.args.bus.now c.bus.inside.reach c.bus.inside.boot_limit c.args.nodes.now c.deref.result.now c.deref-3.result.now
    c.args.questions.now.restores.items c.deref-4.result.now c.args.questions.now.offs.items c.in-Some.exchanges.items c.deref-2.result.now
    c.args.port.now c.ask_all.new.port c.reset_restored.new.port c.reset_and_ask.new.port
    (ap (λ (w : Way). w.reach) c.bus.view_is) (ap (λ (w : Way). w.boot_limit) c.bus.view_is) c.deref.ensures.value c.deref-3.ensures.value c.deref-4.ensures.value c.deref-2.ensures.value
    (rw c.in-Some.is at c.in_ok-exchanges.ensures.asked) (sym c.has_untaken.ensures ∙ c.if-has_untaken.false) (c.reset_restored.ensures.resets c.if-not-reset_restored.false)
    g.P.Port.fails (rw c.in-None.is at c.in_ok-told.ensures.failed)
