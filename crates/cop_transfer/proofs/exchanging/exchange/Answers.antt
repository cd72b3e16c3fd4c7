use Rattle.std.proofs.Common.{◌-◌, ◌<◌, ◌≤◌, refl}
use Rattle.cop_sdo.specs.Message.{message_of}
use Rattle.cop_transfer.proofs.ExchangeLemmas.{waits_first, waits_on, was_answered, was_silent, unbegun, unsent, unasked, unread, too_long}
use Rattle.cop_transfer.proofs.exchanging.exchange.Goals as goal

pub loop-turn-init : goal.loop-turn-init
loop-turn-init g c =
    waits_first g.P.Port.reads g.P.Port.writes g.P.Port.asks c.args.node c.args.limit (message_of c.args.request.now) c.in-Some.began c.args.port.now _ c.new-reader.result c.now.new.self c.send.new.port
    c.in-Some.ensures.asked (c.send.ensures.sent c.if-not-send.false) c.new-reader.ensures refl

pub returns-in-Some-answer_from-clause-exchanged : goal.returns-in-Some-answer_from-clause-exchanged
returns-in-Some-answer_from-clause-exchanged g c =
    let early : c.in-Some-now.now - c.in-Some.began < c.args.limit = rw c.saturating_sub.ensures at c.if-saturating_sub-limit.false in
    was_answered g.P.Port.reads g.P.Port.writes g.P.Port.asks c.args.node c.args.limit (message_of c.args.request.now) c.in-Some.began c.args.port.now c.loop-turn._turn c.loop-turn.reader c.loop-turn.port c.now-in-loop-turn.new.self c.read.new.self c.in-Some-now.now _ (message_of c.in-Some-answer_from.answer)
    c.loop-turn.invariant c.in-Some-now.ensures.asked c.in-Some-read.ensures.reads early (rw c.in-Some-answer_from.is at c.answer_from.ensures.found)

pub loop-turn-preserved : goal.loop-turn-preserved
loop-turn-preserved g c =
    let early : c.in-Some-now.now - c.in-Some.began < c.args.limit = rw c.saturating_sub.ensures at c.if-saturating_sub-limit.false in
    waits_on g.P.Port.reads g.P.Port.writes g.P.Port.asks c.args.node c.args.limit (message_of c.args.request.now) c.in-Some.began c.args.port.now c.loop-turn._turn c.loop-turn.reader c.answer_from.new.reader c.loop-turn.port c.now-in-loop-turn.new.self c.read.new.self c.in-Some-now.now _
    c.loop-turn.invariant c.in-Some-now.ensures.asked c.in-Some-read.ensures.reads early (rw c.in_default-answer_from.is at c.answer_from.ensures.found) (c.answer_from.ensures.reader c.in_default-answer_from.is)

pub returns-then-saturating_sub-limit-clause-exchanged : goal.returns-then-saturating_sub-limit-clause-exchanged
returns-then-saturating_sub-limit-clause-exchanged g c =
    let late : c.args.limit ≤ c.in-Some-now.now - c.in-Some.began = rw c.saturating_sub.ensures at c.if-saturating_sub-limit.true in
    was_silent g.P.Port.reads g.P.Port.writes g.P.Port.asks c.args.node c.args.limit (message_of c.args.request.now) c.in-Some.began c.args.port.now c.loop-turn._turn c.loop-turn.reader c.loop-turn.port c.now-in-loop-turn.new.self c.in-Some-now.now c.loop-turn.invariant c.in-Some-now.ensures.asked late

pub returns-in_default-clause-failed : goal.returns-in_default-clause-failed
returns-in_default-clause-failed g c = unbegun g.P.Port.reads g.P.Port.writes g.P.Port.asks g.P.Port.fails c.args.node c.args.limit (message_of c.args.request.now) 0 c.args.port.now c.now.new.self c.in_default.ensures.failed

pub returns-then-not-send-clause-failed : goal.returns-then-not-send-clause-failed
returns-then-not-send-clause-failed g c =
    unsent g.P.Port.reads g.P.Port.writes g.P.Port.asks g.P.Port.fails c.args.node c.args.limit (message_of c.args.request.now) c.in-Some.began c.args.port.now c.now.new.self c.send.new.port c.in-Some.ensures.asked (c.send.ensures.failed c.if-not-send.true)

pub returns-in_default-now-clause-failed : goal.returns-in_default-now-clause-failed
returns-in_default-now-clause-failed g c = unasked g.P.Port.reads g.P.Port.writes g.P.Port.asks g.P.Port.fails c.args.node c.args.limit (message_of c.args.request.now) c.in-Some.began c.args.port.now c.loop-turn._turn c.loop-turn.reader c.loop-turn.port c.now-in-loop-turn.new.self c.loop-turn.invariant c.in_default-now.ensures.failed

pub returns-in_default-read-clause-failed : goal.returns-in_default-read-clause-failed
returns-in_default-read-clause-failed g c =
    unread g.P.Port.reads g.P.Port.writes g.P.Port.asks g.P.Port.fails c.args.node c.args.limit (message_of c.args.request.now) c.in-Some.began c.args.port.now c.loop-turn._turn c.loop-turn.reader c.loop-turn.port c.now-in-loop-turn.new.self c.read.new.self c.in-Some-now.now c.loop-turn.invariant c.in-Some-now.ensures.asked c.in_default-read.ensures.failed

pub returns-clause-failed : goal.returns-clause-failed
returns-clause-failed g c = too_long g.P.Port.reads g.P.Port.writes g.P.Port.asks g.P.Port.fails c.args.node c.args.limit (message_of c.args.request.now) c.in-Some.began c.args.port.now c.loop-turn._turn c.loop-turn.reader c.loop-turn.port c.loop-turn.invariant c.loop-turn-test.false
