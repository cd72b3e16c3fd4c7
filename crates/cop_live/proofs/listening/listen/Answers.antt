use Rattle.std.proofs.Common.{sym, ◌∙◌}
use Rattle.cop_live.proofs.ListeningLemmas.{hears_on, hears_runner}
use Rattle.cop_live.proofs.FailureLemmas.{listen_unbegun, listen_unasked, listen_unread, listen_too_long}
use Rattle.cop_live.proofs.listening.listen.Goals as goal

pub returns-in-Some-runner_in-clause-listened : goal.returns-in-Some-runner_in-clause-listened
returns-in-Some-runner_in-clause-listened g c =
    hears_runner g.P.Port.reads g.P.Port.writes g.P.Port.asks c.args.senders.now c.args.only c.in-Some.began c.args.port.now c.loop-turn._turn c.loop-turn.hearing.reader c.loop-turn.hearing.tally c.loop-turn.port c.now-in-loop-turn.new.self c.read.new.self c.in-Some-now.now _ c.in-Some-runner_in.runner
    c.loop-turn.invariant c.in-Some-now.ensures.asked c.in-Some-read.ensures.reads (sym c.in-Some-runner_in.is ∙ c.runner_in.ensures.found)

pub loop-turn-preserved : goal.loop-turn-preserved
loop-turn-preserved g c =
    hears_on g.P.Port.reads g.P.Port.writes g.P.Port.asks c.args.senders.now c.args.only c.in-Some.began c.args.port.now c.loop-turn._turn c.loop-turn.hearing.reader c.runner_in.new.hearing.reader c.loop-turn.hearing.tally c.runner_in.new.hearing.tally c.loop-turn.port c.now-in-loop-turn.new.self c.read.new.self c.in-Some-now.now _
    c.loop-turn.invariant c.in-Some-now.ensures.asked c.in-Some-read.ensures.reads (sym c.in_default-runner_in.is ∙ c.runner_in.ensures.found) (c.runner_in.ensures.reader c.in_default-runner_in.is) (c.runner_in.ensures.tally c.in_default-runner_in.is)

pub returns-in_default-clause-failed : goal.returns-in_default-clause-failed
returns-in_default-clause-failed g c = listen_unbegun g.P.Port.reads g.P.Port.writes g.P.Port.asks g.P.Port.fails c.args.senders.now c.args.only 0 c.args.port.now c.now.new.self c.in_default.ensures.failed

pub returns-in_default-now-clause-failed : goal.returns-in_default-now-clause-failed
returns-in_default-now-clause-failed g c = listen_unasked g.P.Port.reads g.P.Port.writes g.P.Port.asks g.P.Port.fails c.args.senders.now c.args.only c.in-Some.began c.args.port.now c.loop-turn._turn c.loop-turn.hearing.reader c.loop-turn.hearing.tally c.loop-turn.port c.now-in-loop-turn.new.self c.loop-turn.invariant c.in_default-now.ensures.failed

pub returns-in_default-read-clause-failed : goal.returns-in_default-read-clause-failed
returns-in_default-read-clause-failed g c =
    listen_unread g.P.Port.reads g.P.Port.writes g.P.Port.asks g.P.Port.fails c.args.senders.now c.args.only c.in-Some.began c.args.port.now c.loop-turn._turn c.loop-turn.hearing.reader c.loop-turn.hearing.tally c.loop-turn.port c.now-in-loop-turn.new.self c.read.new.self c.in-Some-now.now c.loop-turn.invariant c.in-Some-now.ensures.asked c.in_default-read.ensures.failed

pub returns-clause-failed : goal.returns-clause-failed
returns-clause-failed g c = listen_too_long g.P.Port.reads g.P.Port.writes g.P.Port.asks g.P.Port.fails c.args.senders.now c.args.only c.in-Some.began c.args.port.now c.loop-turn._turn c.loop-turn.hearing.reader c.loop-turn.hearing.tally c.loop-turn.port c.loop-turn.invariant c.loop-turn-test.false
