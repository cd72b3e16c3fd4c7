use Rattle.std.proofs.Common.{refl, sym, ◌∙◌, inl, inr, subst}
use Rattle.cop_listen.proofs.HearingLemmas.{listens_first, listens_on, listens_all, unread, unasked, too_long, unbegun}
use Rattle.cop_listen.proofs.listening.attend.Goals as goal

pub loop-turn-init : goal.loop-turn-init
loop-turn-init g c = listens_first g.P.Port.reads g.P.Port.writes g.P.Port.asks g.L.Listener.hears g.L.Listener.ends c.args.limit c.in-Some.began c.args.port.now c.args.listener.now _ _ c.now.new.self c.in-Some.ensures.asked c.new-reader.ensures refl

pub loop-turn-preserved : goal.loop-turn-preserved
loop-turn-preserved g c =
    listens_on g.P.Port.reads g.P.Port.writes g.P.Port.asks g.L.Listener.hears g.L.Listener.ends c.args.limit c.in-Some.began c.args.port.now c.args.listener.now c.loop-turn._turn c.loop-turn.reader c.hear_bytes.new.reader c.loop-turn.port c.read.new.self c.now-in-loop-turn.new.self c.loop-turn.listener c.hear_bytes.new.listener c.in-Some-now.now _
    c.loop-turn.invariant c.in-Some-read.ensures.reads c.in-Some-now.ensures.asked c.hear_bytes.ensures.heard c.hear_bytes.ensures.reader (sym c.is_over.ensures ∙ c.if-is_over.false) (subst (λ b. g.L.Listener.ends c.hear_bytes.new.listener b) c.if-has_enough.false c.has_enough.ensures)

pub returns-then-is_over-clause-heard : goal.returns-then-is_over-clause-heard
returns-then-is_over-clause-heard g c is =
    listens_all g.P.Port.reads g.P.Port.writes g.P.Port.asks g.L.Listener.hears g.L.Listener.ends c.args.limit c.in-Some.began c.args.port.now c.args.listener.now c.loop-turn._turn c.loop-turn.reader c.loop-turn.port c.read.new.self c.now-in-loop-turn.new.self c.loop-turn.listener c.hear_bytes.new.listener c.in-Some-now.now _
    c.loop-turn.invariant c.in-Some-read.ensures.reads c.in-Some-now.ensures.asked c.hear_bytes.ensures.heard (inl (sym c.is_over.ensures ∙ c.if-is_over.true))

pub returns-then-has_enough-clause-heard : goal.returns-then-has_enough-clause-heard
returns-then-has_enough-clause-heard g c is =
    listens_all g.P.Port.reads g.P.Port.writes g.P.Port.asks g.L.Listener.hears g.L.Listener.ends c.args.limit c.in-Some.began c.args.port.now c.args.listener.now c.loop-turn._turn c.loop-turn.reader c.loop-turn.port c.read.new.self c.now-in-loop-turn.new.self c.loop-turn.listener c.hear_bytes.new.listener c.in-Some-now.now _
    c.loop-turn.invariant c.in-Some-read.ensures.reads c.in-Some-now.ensures.asked c.hear_bytes.ensures.heard (inr (subst (λ b. g.L.Listener.ends c.hear_bytes.new.listener b) c.if-has_enough.true c.has_enough.ensures))

pub returns-in_default-clause-failed : goal.returns-in_default-clause-failed
returns-in_default-clause-failed g c is = unbegun g.P.Port.reads g.P.Port.writes g.P.Port.asks g.P.Port.fails c.args.port.now c.now.new.self c.in_default.ensures.failed

pub returns-in_default-read-clause-failed : goal.returns-in_default-read-clause-failed
returns-in_default-read-clause-failed g c is =
    unread g.P.Port.reads g.P.Port.writes g.P.Port.asks g.L.Listener.hears g.L.Listener.ends c.args.limit c.in-Some.began c.args.port.now c.args.listener.now g.P.Port.fails c.loop-turn._turn c.loop-turn.reader c.loop-turn.port c.read.new.self c.loop-turn.listener c.loop-turn.invariant c.in_default-read.ensures.failed

pub returns-in_default-now-clause-failed : goal.returns-in_default-now-clause-failed
returns-in_default-now-clause-failed g c is =
    unasked g.P.Port.reads g.P.Port.writes g.P.Port.asks g.L.Listener.hears g.L.Listener.ends c.args.limit c.in-Some.began c.args.port.now c.args.listener.now g.P.Port.fails c.loop-turn._turn c.loop-turn.reader c.loop-turn.port c.read.new.self c.now-in-loop-turn.new.self c.loop-turn.listener _
    c.loop-turn.invariant c.in-Some-read.ensures.reads c.in_default-now.ensures.failed

pub returns-clause-failed : goal.returns-clause-failed
returns-clause-failed g c is =
    too_long g.P.Port.reads g.P.Port.writes g.P.Port.asks g.L.Listener.hears g.L.Listener.ends c.args.limit c.in-Some.began c.args.port.now c.args.listener.now g.P.Port.fails c.loop-turn._turn c.loop-turn.reader c.loop-turn.port c.loop-turn.listener c.loop-turn.invariant c.loop-turn-test.false
