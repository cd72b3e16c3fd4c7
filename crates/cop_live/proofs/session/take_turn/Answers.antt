use Rattle.std.proofs.Common.{refl}
use Rattle.cop_live.proofs.Sessions.{turn_did, clock_unasked, turn_unsent, turn_unread, turn_unanswered}
use Rattle.cop_live.proofs.session.take_turn.Goals as goal

pub returns-then-take_bytes-clause-did : goal.returns-then-take_bytes-clause-did
returns-then-take_bytes-clause-did g c =
    turn_did g.P.Port.reads g.P.Port.writes g.P.Port.asks c.args.port.now c.now.new.self c.pass.new.port c.read.new.self c.take_bytes.new.port c.args.boot.now.began c.args.manager.now c.pass.new.manager
    c.args.boot.now.reader c.in-Some.now c.saturating_sub.result _
    c.in-Some.ensures.asked c.saturating_sub.ensures (c.if-not-pass.ensures.manager refl) (c.if-not-pass.ensures.sent refl) c.in-Some-read.ensures.reads (c.if-take_bytes.ensures.sent refl)

pub returns-in_default-clause-failed : goal.returns-in_default-clause-failed
returns-in_default-clause-failed g c = clock_unasked g.P.Port.reads g.P.Port.writes g.P.Port.asks g.P.Port.fails c.args.boot.now.began c.args.manager.now c.args.boot.now.reader c.args.port.now c.now.new.self c.in_default.ensures.failed

pub returns-then-not-pass-clause-failed : goal.returns-then-not-pass-clause-failed
returns-then-not-pass-clause-failed g c =
    turn_unsent g.P.Port.reads g.P.Port.writes g.P.Port.asks g.P.Port.fails c.args.boot.now.began c.args.manager.now c.args.boot.now.reader c.args.port.now c.now.new.self c.pass.new.port c.in-Some.now c.saturating_sub.result c.in-Some.ensures.asked c.saturating_sub.ensures (c.if-not-pass.ensures.failed refl)

pub returns-in_default-read-clause-failed : goal.returns-in_default-read-clause-failed
returns-in_default-read-clause-failed g c =
    turn_unread g.P.Port.reads g.P.Port.writes g.P.Port.asks g.P.Port.fails c.args.boot.now.began c.args.manager.now c.args.boot.now.reader c.args.port.now c.now.new.self c.pass.new.port c.read.new.self c.in-Some.now c.saturating_sub.result
    c.in-Some.ensures.asked c.saturating_sub.ensures (c.if-not-pass.ensures.sent refl) c.in_default-read.ensures.failed

pub returns-else-take_bytes-clause-failed : goal.returns-else-take_bytes-clause-failed
returns-else-take_bytes-clause-failed g c =
    turn_unanswered g.P.Port.reads g.P.Port.writes g.P.Port.asks g.P.Port.fails c.args.boot.now.began c.args.manager.now c.args.boot.now.reader c.args.port.now c.now.new.self c.pass.new.port c.read.new.self c.take_bytes.new.port c.pass.new.manager c.in-Some.now c.saturating_sub.result _
    c.in-Some.ensures.asked c.saturating_sub.ensures (c.if-not-pass.ensures.manager refl) (c.if-not-pass.ensures.sent refl) c.in-Some-read.ensures.reads (c.if-take_bytes.ensures.failed refl)
