use Rattle.std.proofs.Common.{refl, ap, inl, inr}
use Rattle.cop_commission.specs.Sessions.{Way}
use Rattle.cop_commission.proofs.CommissioningLemmas.{ended_so}
use Rattle.cop_commission.proofs.FailureLemmas.{on_err}
use Rattle.cop_commission.proofs.commissioning.boot_nodes.Goals as goal

pub returns-in_ok-ended_answer-in-Closed-clause-booting : goal.returns-in_ok-ended_answer-in-Closed-clause-booting
returns-in_ok-ended_answer-in-Closed-clause-booting g c =
    ended_so g.P.Port.reads g.P.Port.writes g.P.Port.asks c.args.bus.now c.bus.inside.rate c.args.manager.now c.boot_and_close.new.manager c.args.nodes.now c.args.settings.now c.in-Closed.back c.in-Closed.heartbeats
    c.args.port.now c.boot_and_close.new.port _ _ _ _ (rw c.in-Closed.is at c.in_ok-back.ensures.closes) c.in_ok-ended_answer-in-Closed.ensures refl refl c.is_operational.ensures (ap (λ (w : Way). w.rate) c.bus.view_is)

pub returns-in_err-ended_answer-in-Closed-clause-short : goal.returns-in_err-ended_answer-in-Closed-clause-short
returns-in_err-ended_answer-in-Closed-clause-short g c =
    on_err _ _ (inr (inl (c.in-Closed.back, c.in-Closed.heartbeats, c.boot_and_close.new.manager, rw c.in-Closed.is at c.in_ok-back.ensures.closes)))
