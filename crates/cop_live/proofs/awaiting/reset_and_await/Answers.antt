use Rattle.std.proofs.Common.{◌-◌, ◌<◌, refl, sym, ◌∙◌}
use Rattle.cop_sdo.specs.Message.{message_of}
use Rattle.cop_live.proofs.AwaitingLemmas.{waits_first, waits_on}
use Rattle.cop_live.proofs.FailureLemmas.{await_unbegun, await_unsent, await_unasked, await_unread, await_too_long}
use Rattle.cop_live.proofs.awaiting.reset_and_await.Goals as goal

pub loop-turn-init : goal.loop-turn-init
loop-turn-init g c =
    waits_first g.P.Port.reads g.P.Port.writes g.P.Port.asks c.args.only c.args.nodes.now c.args.limit c.in-Some.began c.args.port.now _ c.new-reader.result c.new-booted.result c.now.new.self c.send.new.port (message_of c.reset_of.result)
    c.in-Some.ensures.asked c.reset_of.ensures (c.send.ensures.sent c.if-not-send.false) c.new-reader.ensures c.new-booted.ensures refl

pub loop-turn-preserved : goal.loop-turn-preserved
loop-turn-preserved g c =
    let early : c.in-Some-now.now - c.in-Some.began < c.args.limit = rw c.saturating_sub.ensures at c.if-saturating_sub-limit.false in
    waits_on g.P.Port.reads g.P.Port.writes g.P.Port.asks c.args.only c.args.nodes.now c.args.limit c.in-Some.began c.args.port.now c.loop-turn._turn c.loop-turn.reader c.note_bytes.new.reader c.loop-turn.booted c.note_bytes.new.booted c.loop-turn.port c.now-in-loop-turn.new.self c.read.new.self c.in-Some-now.now _
    c.loop-turn.invariant (sym c.have_booted.ensures ∙ c.if-have_booted.false) c.in-Some-now.ensures.asked c.in-Some-read.ensures.reads early c.note_bytes.ensures.reader c.note_bytes.ensures.booted

pub returns-in_default-clause-failed : goal.returns-in_default-clause-failed
returns-in_default-clause-failed g c = await_unbegun g.P.Port.reads g.P.Port.writes g.P.Port.asks g.P.Port.fails c.args.only c.args.nodes.now c.args.limit 0 c.args.port.now c.now.new.self c.in_default.ensures.failed

pub returns-then-not-send-clause-failed : goal.returns-then-not-send-clause-failed
returns-then-not-send-clause-failed g c =
    await_unsent g.P.Port.reads g.P.Port.writes g.P.Port.asks g.P.Port.fails c.args.only c.args.nodes.now c.args.limit c.in-Some.began c.args.port.now c.now.new.self c.send.new.port (message_of c.reset_of.result) c.in-Some.ensures.asked c.reset_of.ensures (c.send.ensures.failed c.if-not-send.true)

pub returns-in_default-now-clause-failed : goal.returns-in_default-now-clause-failed
returns-in_default-now-clause-failed g c = await_unasked g.P.Port.reads g.P.Port.writes g.P.Port.asks g.P.Port.fails c.args.only c.args.nodes.now c.args.limit c.in-Some.began c.args.port.now c.loop-turn._turn c.loop-turn.reader c.loop-turn.booted c.loop-turn.port c.now-in-loop-turn.new.self c.loop-turn.invariant c.in_default-now.ensures.failed

pub returns-in_default-read-clause-failed : goal.returns-in_default-read-clause-failed
returns-in_default-read-clause-failed g c =
    await_unread g.P.Port.reads g.P.Port.writes g.P.Port.asks g.P.Port.fails c.args.only c.args.nodes.now c.args.limit c.in-Some.began c.args.port.now c.loop-turn._turn c.loop-turn.reader c.loop-turn.booted c.loop-turn.port c.now-in-loop-turn.new.self c.read.new.self c.in-Some-now.now c.loop-turn.invariant c.in-Some-now.ensures.asked c.in_default-read.ensures.failed

pub returns-clause-failed : goal.returns-clause-failed
returns-clause-failed g c = await_too_long g.P.Port.reads g.P.Port.writes g.P.Port.asks g.P.Port.fails c.args.only c.args.nodes.now c.args.limit c.in-Some.began c.args.port.now c.loop-turn._turn c.loop-turn.reader c.loop-turn.booted c.loop-turn.port c.loop-turn.invariant c.loop-turn-test.false
