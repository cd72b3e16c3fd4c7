use Rattle.std.proofs.Common.{refl, ◌∙◌}
use Rattle.std.proofs.lemmas.List.{get_or_default}
use Rattle.cop_live.specs.Session.{State}
use Rattle.cop_identity.proofs.AskingLemmas.{one_added, on_err}
use Rattle.cop_readback.proofs.ReadingLemmas.{asks_on, asked_since, rounds_fail, rounds_stop}
use Rattle.cop_readback.proofs.reading.read_back.Goals as goal

pub loop-question-preserved : goal.loop-question-preserved
loop-question-preserved g c =
    let before : State = record { manager = c.loop-question.manager; pending = c.loop-question.boot.reader } in
    let later : State = record { manager = c.ask_next.new.manager; pending = c.ask_next.new.boot.reader } in
    record {
      same = c.ask_next.ensures.began ∙ c.loop-question.invariant.same;
      asked = one_added c.args.questions.now c.loop-question.all.items c.push.new.self.items c.loop-question.question-index _ _ c.loop-question-test.true
          (get_or_default c.args.questions.now c.loop-question.question-index _ _ c.loop-question-test.true) refl c.in_ok-push.ensures.items c.loop-question.invariant.asked;
      goes = asks_on g.P.Port.reads g.P.Port.writes g.P.Port.asks c.args.boot.now.began (record { manager = c.args.manager.now; pending = c.args.boot.now.reader }) c.args.boot.now.booted c.args.port.now
          c.loop-question.all.items c.push.new.self.items before later c.loop-question.boot.booted c.ask_next.new.boot.booted c.loop-question.port c.ask_next.new.port _ c.loop-question.invariant.goes c.in_ok-push.ensures.items
          (asked_since g.P.Port.reads g.P.Port.writes g.P.Port.asks c.loop-question.boot.began c.args.boot.now.began before later c.loop-question.boot.booted c.ask_next.new.boot.booted c.loop-question.port c.ask_next.new.port
          _ c.loop-question.all.items _ c.in-Some.outcome c.loop-question.invariant.same c.deref.ensures.value c.in-Some.ensures.asked);
    }

pub returns-in_default-clause-failed : goal.returns-in_default-clause-failed
returns-in_default-clause-failed g c =
    let before : State = record { manager = c.loop-question.manager; pending = c.loop-question.boot.reader } in
    rounds_fail g.P.Port.reads g.P.Port.writes g.P.Port.asks g.P.Port.fails c.args.questions.now c.loop-question.boot.began c.args.boot.now.began (record { manager = c.args.manager.now; pending = c.args.boot.now.reader }) before c.args.boot.now.booted c.loop-question.boot.booted c.args.port.now c.loop-question.port c.ask_next.new.port
    _ c.loop-question.all.items c.loop-question.question-index _ c.loop-question-test.true (get_or_default c.args.questions.now c.loop-question.question-index _ _ c.loop-question-test.true)
    c.loop-question.invariant.asked c.loop-question.invariant.same c.deref.ensures.value c.loop-question.invariant.goes c.in_default.ensures.failed

pub returns-in_err-push-clause-short : goal.returns-in_err-push-clause-short
returns-in_err-push-clause-short g c =
    let before : State = record { manager = c.loop-question.manager; pending = c.loop-question.boot.reader } in
    let later : State = record { manager = c.ask_next.new.manager; pending = c.ask_next.new.boot.reader } in
    on_err _ _ (rounds_stop g.P.Port.reads g.P.Port.writes g.P.Port.asks c.args.questions.now c.args.boot.now.began (record { manager = c.args.manager.now; pending = c.args.boot.now.reader }) later c.args.boot.now.booted c.ask_next.new.boot.booted c.args.port.now c.ask_next.new.port c.loop-question.all.items _ c.loop-question.question-index _
    c.loop-question-test.true (get_or_default c.args.questions.now c.loop-question.question-index _ _ c.loop-question-test.true) c.loop-question.invariant.asked refl
    (asks_on g.P.Port.reads g.P.Port.writes g.P.Port.asks c.args.boot.now.began (record { manager = c.args.manager.now; pending = c.args.boot.now.reader }) c.args.boot.now.booted c.args.port.now
    c.loop-question.all.items _ before later c.loop-question.boot.booted c.ask_next.new.boot.booted c.loop-question.port c.ask_next.new.port _ c.loop-question.invariant.goes refl
    (asked_since g.P.Port.reads g.P.Port.writes g.P.Port.asks c.loop-question.boot.began c.args.boot.now.began before later c.loop-question.boot.booted c.ask_next.new.boot.booted c.loop-question.port c.ask_next.new.port
    _ c.loop-question.all.items _ c.in-Some.outcome c.loop-question.invariant.same c.deref.ensures.value c.in-Some.ensures.asked)))
