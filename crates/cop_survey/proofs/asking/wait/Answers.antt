use Rattle.std.proofs.Common.{◌-◌, ◌<◌, ◌≤◌, refl}
use Rattle.cop_survey.proofs.AskingLemmas.{waits_first, waits_on, pauses_so, wait_unbegun, wait_unasked, wait_unread, wait_too_long}
use Rattle.cop_survey.proofs.asking.wait.Goals as goal

pub loop-turn-init : goal.loop-turn-init
loop-turn-init g c = waits_first g.P.Port.reads g.P.Port.writes g.P.Port.asks c.args.ticks c.in-Some.began c.args.port.now _ c.now.new.self c.in-Some.ensures.asked refl

pub loop-turn-preserved : goal.loop-turn-preserved
loop-turn-preserved g c =
    let early : c.in-Some-now.now - c.in-Some.began < c.args.ticks = rw c.saturating_sub.ensures at c.if-saturating_sub-ticks.false in
    waits_on g.P.Port.reads g.P.Port.writes g.P.Port.asks c.args.ticks c.in-Some.began c.args.port.now c.loop-turn._turn c.loop-turn.port c.now-in-loop-turn.new.self c.read.new.self c.in-Some-now.now _
    c.loop-turn.invariant c.in-Some-now.ensures.asked c.in-Some-read.ensures.reads early

pub returns-then-saturating_sub-ticks-clause-paused : goal.returns-then-saturating_sub-ticks-clause-paused
returns-then-saturating_sub-ticks-clause-paused g c is =
    let late : c.args.ticks ≤ c.in-Some-now.now - c.in-Some.began = rw c.saturating_sub.ensures at c.if-saturating_sub-ticks.true in
    pauses_so g.P.Port.reads g.P.Port.writes g.P.Port.asks c.args.ticks c.in-Some.began c.args.port.now c.loop-turn._turn c.loop-turn.port c.now-in-loop-turn.new.self c.in-Some-now.now c.loop-turn.invariant c.in-Some-now.ensures.asked late

pub returns-in_default-clause-failed : goal.returns-in_default-clause-failed
returns-in_default-clause-failed g c is = wait_unbegun g.P.Port.reads g.P.Port.writes g.P.Port.asks g.P.Port.fails c.args.ticks 0 c.args.port.now c.now.new.self c.in_default.ensures.failed

pub returns-in_default-now-clause-failed : goal.returns-in_default-now-clause-failed
returns-in_default-now-clause-failed g c is = wait_unasked g.P.Port.reads g.P.Port.writes g.P.Port.asks g.P.Port.fails c.args.ticks c.in-Some.began c.args.port.now c.loop-turn._turn c.loop-turn.port c.now-in-loop-turn.new.self c.loop-turn.invariant c.in_default-now.ensures.failed

pub returns-in_default-read-clause-failed : goal.returns-in_default-read-clause-failed
returns-in_default-read-clause-failed g c is = wait_unread g.P.Port.reads g.P.Port.writes g.P.Port.asks g.P.Port.fails c.args.ticks c.in-Some.began c.args.port.now c.loop-turn._turn c.loop-turn.port c.now-in-loop-turn.new.self c.read.new.self c.in-Some-now.now c.loop-turn.invariant c.in-Some-now.ensures.asked c.in_default-read.ensures.failed

pub returns-clause-failed : goal.returns-clause-failed
returns-clause-failed g c is = wait_too_long g.P.Port.reads g.P.Port.writes g.P.Port.asks g.P.Port.fails c.args.ticks c.in-Some.began c.args.port.now c.loop-turn._turn c.loop-turn.port c.loop-turn.invariant c.loop-turn-test.false
