use Rattle.std.proofs.Common.{◌∙◌, ap, inl, inr}
use Rattle.cop_readback.specs.Session.{may_start}
use Rattle.cop_identity.proofs.AskingLemmas.{on_err}
use Rattle.cop_readback.proofs.SessionLemmas.{reads_back, start_fails, reading_fails, reading_stops}
use Rattle.cop_readback.proofs.session.boot_and_read_back.Goals as goal

pub returns-clause-done : goal.returns-clause-done
returns-clause-done g c =
    reads_back g.P.Port.reads g.P.Port.writes g.P.Port.asks c.args.reach c.args.manager.now c.args.nodes.now c.args.questions.now c.args.port.now c.boot_over.new.port c.read_back.new.port c.start.new.port c.in-Some.boot.began
    (record { manager = c.boot_over.new.manager; pending = c.in-Some.boot.reader }) (record { manager = c.read_back.new.manager; pending = c.read_back.new.boot.reader })
    c.in-Some-2.exchanges.items c.read_back.new.boot.booted c.new-boot.result c.may_start-ready.result c.starts-started.result
    c.in-Some.ensures.booted c.in-Some.ensures.ended c.new-boot.ensures (rw c.in-Some-2.is at c.in_ok-exchanges.ensures.asked)
    (c.may_start-ready.ensures ∙ ap (λ all. may_start c.read_back.new.manager c.args.nodes.now all c.read_back.new.boot.booted) c.deref.ensures.value)
    c.starts-started.ensures (c.start.ensures.sent c.if-not-start.false)

pub returns-in_default-clause-failed : goal.returns-in_default-clause-failed
returns-in_default-clause-failed g c = inl c.in_default.ensures.failed

pub returns-in_default-2-clause-failed : goal.returns-in_default-2-clause-failed
returns-in_default-2-clause-failed g c =
    inr (inl (reading_fails g.P.Port.reads g.P.Port.writes g.P.Port.asks g.P.Port.fails c.args.reach.only c.args.manager.now c.args.nodes.now c.args.questions.now c.args.port.now c.boot_over.new.port c.read_back.new.port c.in-Some.boot.began (record { manager = c.boot_over.new.manager; pending = c.in-Some.boot.reader })
    c.in-Some.ensures.booted c.in-Some.ensures.ended (rw c.in_default-2.is at c.in_ok-exchanges.ensures.failed)))

pub returns-then-not-start-clause-failed : goal.returns-then-not-start-clause-failed
returns-then-not-start-clause-failed g c =
    inr (inr (start_fails g.P.Port.reads g.P.Port.writes g.P.Port.asks g.P.Port.fails c.args.reach c.args.manager.now c.args.nodes.now c.args.questions.now c.args.port.now c.boot_over.new.port c.read_back.new.port c.start.new.port c.in-Some.boot.began
    (record { manager = c.boot_over.new.manager; pending = c.in-Some.boot.reader }) (record { manager = c.read_back.new.manager; pending = c.read_back.new.boot.reader })
    c.in-Some-2.exchanges.items c.read_back.new.boot.booted c.new-boot.result c.may_start-ready.result c.starts-started.result
    c.in-Some.ensures.booted c.in-Some.ensures.ended c.new-boot.ensures (rw c.in-Some-2.is at c.in_ok-exchanges.ensures.asked)
    (c.may_start-ready.ensures ∙ ap (λ all. may_start c.read_back.new.manager c.args.nodes.now all c.read_back.new.boot.booted) c.deref.ensures.value)
    c.starts-started.ensures (c.start.ensures.failed c.if-not-start.true)))

pub returns-in_err-exchanges-clause-short : goal.returns-in_err-exchanges-clause-short
returns-in_err-exchanges-clause-short g c =
    on_err _ _ (reading_stops g.P.Port.reads g.P.Port.writes g.P.Port.asks c.args.reach.only c.args.manager.now c.args.nodes.now c.args.questions.now c.args.port.now c.boot_over.new.port c.read_back.new.port c.in-Some.boot.began (record { manager = c.boot_over.new.manager; pending = c.in-Some.boot.reader })
    c.in-Some.ensures.booted c.in-Some.ensures.ended c.in_err-exchanges.ensures.short)
