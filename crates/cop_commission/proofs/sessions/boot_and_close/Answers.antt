use Rattle.std.proofs.Common.{ap, ◌∙◌}
use Rattle.cop_commission.specs.Sessions.{Way, awaited_if}
use Rattle.cop_commission.proofs.CommissioningLemmas.{closed_so, started_so}
use Rattle.cop_commission.proofs.FailureLemmas.{on_err, unread_so, short_so, unwatched_so, unclosed_so}
use Rattle.cop_commission.proofs.sessions.boot_and_close.Goals as goal

pub returns-then-close-clause-closes : goal.returns-then-close-clause-closes
returns-then-close-clause-closes g c =
    closed_so g.P.Port.reads g.P.Port.writes g.P.Port.asks c.args.bus.now c.bus.inside.reach c.awaited_if.result.now c.bus.inside.limit c.args.manager.now c.boot_and_read_back.new.manager c.args.nodes.now c.args.settings.now
    c.in-Some.back c.in-Some-watch.heartbeats c.args.port.now c.boot_and_read_back.new.port c.watch.new.port c.close.new.port
    (ap (λ (w : Way). w.reach) c.bus.view_is) (ap (λ (w : Way). w.limit) c.bus.view_is)
    (c.awaited_if.ensures ∙ ap (awaited_if c.in-Some.back.started) (c.deref.ensures.value ∙ ap (λ (w : Way). w.awaited) c.bus.view_is))
    (rw c.in-Some.is at c.in_ok-back.ensures.done) c.in-Some-watch.ensures.watched (c.close.ensures.closed c.if-close.true)

pub returns-in_default-watch-clause-closes : goal.returns-in_default-watch-clause-closes
returns-in_default-watch-clause-closes g c = λ starts.
    started_so g.P.Port.reads g.P.Port.writes g.P.Port.asks c.args.bus.now c.bus.inside.reach c.args.manager.now c.boot_and_read_back.new.manager c.args.nodes.now c.args.settings.now c.in-Some.back c.args.port.now
    c.boot_and_read_back.new.port (ap (λ (w : Way). w.reach) c.bus.view_is) (rw c.in-Some.is at c.in_ok-back.ensures.done) starts

pub returns-else-close-clause-closes : goal.returns-else-close-clause-closes
returns-else-close-clause-closes g c = λ starts.
    started_so g.P.Port.reads g.P.Port.writes g.P.Port.asks c.args.bus.now c.bus.inside.reach c.args.manager.now c.boot_and_read_back.new.manager c.args.nodes.now c.args.settings.now c.in-Some.back c.args.port.now
    c.boot_and_read_back.new.port (ap (λ (w : Way). w.reach) c.bus.view_is) (rw c.in-Some.is at c.in_ok-back.ensures.done) starts

pub returns-in_default-clause-failed : goal.returns-in_default-clause-failed
returns-in_default-clause-failed g c =
    unread_so g.P.Port.reads g.P.Port.writes g.P.Port.asks g.P.Port.fails c.args.bus.now c.bus.inside.reach c.args.manager.now c.boot_and_read_back.new.manager c.args.nodes.now c.args.settings.now c.args.port.now c.boot_and_read_back.new.port (ap (λ (w : Way). w.reach) c.bus.view_is) (rw c.in_default.is at c.in_ok-back.ensures.failed)

pub returns-in_err-back-clause-short : goal.returns-in_err-back-clause-short
returns-in_err-back-clause-short g c =
    on_err _ _ (short_so g.P.Port.reads g.P.Port.writes g.P.Port.asks c.args.bus.now c.bus.inside.reach c.args.manager.now c.args.nodes.now c.args.settings.now c.args.port.now c.boot_and_read_back.new.port (ap (λ (w : Way). w.reach) c.bus.view_is) c.in_err-back.ensures.short)

pub returns-in_default-watch-clause-failed : goal.returns-in_default-watch-clause-failed
returns-in_default-watch-clause-failed g c =
    unwatched_so g.P.Port.reads g.P.Port.writes g.P.Port.asks g.P.Port.fails c.args.bus.now c.bus.inside.reach c.awaited_if.result.now c.args.manager.now c.boot_and_read_back.new.manager c.args.nodes.now c.args.settings.now c.in-Some.back c.args.port.now c.boot_and_read_back.new.port c.watch.new.port
    (ap (λ (w : Way). w.reach) c.bus.view_is) (c.awaited_if.ensures ∙ ap (awaited_if c.in-Some.back.started) (c.deref.ensures.value ∙ ap (λ (w : Way). w.awaited) c.bus.view_is)) (rw c.in-Some.is at c.in_ok-back.ensures.done) c.in_default-watch.ensures.failed

pub returns-else-close-clause-failed : goal.returns-else-close-clause-failed
returns-else-close-clause-failed g c =
    unclosed_so g.P.Port.reads g.P.Port.writes g.P.Port.asks g.P.Port.fails c.args.bus.now c.bus.inside.reach c.awaited_if.result.now c.args.manager.now c.boot_and_read_back.new.manager c.args.nodes.now c.args.settings.now c.in-Some.back c.args.port.now c.boot_and_read_back.new.port c.bus.inside.limit c.in-Some-watch.heartbeats c.watch.new.port c.close.new.port
    (ap (λ (w : Way). w.reach) c.bus.view_is) (ap (λ (w : Way). w.limit) c.bus.view_is) (c.awaited_if.ensures ∙ ap (awaited_if c.in-Some.back.started) (c.deref.ensures.value ∙ ap (λ (w : Way). w.awaited) c.bus.view_is)) (rw c.in-Some.is at c.in_ok-back.ensures.done) c.in-Some-watch.ensures.watched (c.close.ensures.failed c.if-close.false)
