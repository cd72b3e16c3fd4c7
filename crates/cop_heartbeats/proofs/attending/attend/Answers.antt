use Rattle.std.proofs.Common.{refl}
use Rattle.cop_heartbeats.proofs.AttendingLemmas.{attends_first, attends_on, attends_all, attend_unbegun, attend_unread, attend_unasked, attend_too_long}
use Rattle.cop_heartbeats.proofs.attending.attend.Goals as goal

pub loop-turn-init : goal.loop-turn-init
loop-turn-init g c = attends_first g.P.Port.reads g.P.Port.writes g.P.Port.asks c.args.awaited.now c.args.limit c.in-Some.began c.args.port.now _ _ c.now.new.self c.in-Some.ensures.asked (rw (c.new.ensures, c.new-2.ensures) refl) refl

pub loop-turn-preserved : goal.loop-turn-preserved
loop-turn-preserved g c =
    attends_on g.P.Port.reads g.P.Port.writes g.P.Port.asks c.args.awaited.now c.args.limit c.in-Some.began c.args.port.now c.loop-turn._turn c.loop-turn.attendance c.turn.new.attendance c.loop-turn.port c.read.new.self c.now-in-loop-turn.new.self c.in-Some-now.now _
    c.loop-turn.invariant c.in-Some-read.ensures.reads c.in-Some-now.ensures.asked c.turn.ensures (rw c.saturating_sub.ensures at c.if-saturating_sub-limit.false)

pub returns-then-saturating_sub-limit-clause-attended : goal.returns-then-saturating_sub-limit-clause-attended
returns-then-saturating_sub-limit-clause-attended g c =
    attends_all g.P.Port.reads g.P.Port.writes g.P.Port.asks c.args.awaited.now c.args.limit c.in-Some.began c.args.port.now c.loop-turn._turn c.loop-turn.attendance c.turn.new.attendance c.loop-turn.port c.read.new.self c.now-in-loop-turn.new.self c.in-Some-now.now _ _
    c.loop-turn.invariant c.in-Some-read.ensures.reads c.in-Some-now.ensures.asked c.turn.ensures (rw c.saturating_sub.ensures at c.if-saturating_sub-limit.true) c.heartbeats_of.ensures

pub returns-in_default-clause-failed : goal.returns-in_default-clause-failed
returns-in_default-clause-failed g c = attend_unbegun g.P.Port.reads g.P.Port.writes g.P.Port.asks c.args.awaited.now c.args.limit 0 c.args.port.now g.P.Port.fails c.now.new.self c.in_default.ensures.failed

pub returns-in_default-read-clause-failed : goal.returns-in_default-read-clause-failed
returns-in_default-read-clause-failed g c =
    attend_unread g.P.Port.reads g.P.Port.writes g.P.Port.asks c.args.awaited.now c.args.limit c.in-Some.began c.args.port.now g.P.Port.fails c.loop-turn._turn c.loop-turn.attendance c.loop-turn.port c.read.new.self c.loop-turn.invariant c.in_default-read.ensures.failed

pub returns-in_default-now-clause-failed : goal.returns-in_default-now-clause-failed
returns-in_default-now-clause-failed g c =
    attend_unasked g.P.Port.reads g.P.Port.writes g.P.Port.asks c.args.awaited.now c.args.limit c.in-Some.began c.args.port.now g.P.Port.fails c.loop-turn._turn c.loop-turn.attendance c.loop-turn.port c.read.new.self c.now-in-loop-turn.new.self _
    c.loop-turn.invariant c.in-Some-read.ensures.reads c.in_default-now.ensures.failed

pub returns-clause-failed : goal.returns-clause-failed
returns-clause-failed g c = attend_too_long g.P.Port.reads g.P.Port.writes g.P.Port.asks c.args.awaited.now c.args.limit c.in-Some.began c.args.port.now g.P.Port.fails c.loop-turn._turn c.loop-turn.attendance c.loop-turn.port c.loop-turn.invariant c.loop-turn-test.false
