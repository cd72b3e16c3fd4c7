use Rattle.std.proofs.Common.{◌∷◌, [], subst, inl, inr}
use Rattle.cop_sdo.specs.Message.{message_of}
use Rattle.cop_live.specs.Log.{Sent, BrokeOff}
use Rattle.cop_live.proofs.Sessions.{boot_begins}
use Rattle.cop_live.proofs.session.begin.Goals as goal

pub returns-then-send-clause-booted : goal.returns-then-send-clause-booted
returns-then-send-clause-booted g c =
    boot_begins g.P.Port.reads g.P.Port.writes g.P.Port.asks c.args.only c.args.manager.now c.args.port.now c.now.new.self c.send.new.port c.in-Some.began c.begin-to_all.new.self c.new.result (message_of c.reset_of.result) (message_of c.begin-to_all.result)
    c.in-Some.ensures.asked c.begin-to_all.ensures c.new.ensures c.reset_of.ensures (c.send.ensures.sent c.if-send.true)

pub returns-in_default-clause-failed : goal.returns-in_default-clause-failed
returns-in_default-clause-failed g c = (0, inl c.in_default.ensures.failed)

pub returns-else-send-clause-failed : goal.returns-else-send-clause-failed
returns-else-send-clause-failed g c =
    (c.in-Some.began, inr (c.now.new.self, c.in-Some.ensures.asked, subst (λ f. BrokeOff g.P.Port.reads g.P.Port.writes g.P.Port.asks g.P.Port.fails c.now.new.self (Sent f ∷ []) c.send.new.port) c.reset_of.ensures (c.send.ensures.failed c.if-send.false)))
