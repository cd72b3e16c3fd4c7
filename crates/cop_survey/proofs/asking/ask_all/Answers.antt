use Rattle.std.proofs.Common.{refl}
use Rattle.std.proofs.lemmas.List.{get_or_default}
use Rattle.cop_identity.proofs.AskingLemmas.{one_added, all_added, on_err}
use Rattle.cop_survey.proofs.AskingLemmas.{one_more, were_all, asking_fails, asked_some}
use Rattle.cop_survey.proofs.asking.ask_all.Goals as goal

pub loop-question-preserved : goal.loop-question-preserved
loop-question-preserved g c = record {
  asked = one_added c.args.questions.now c.loop-question.all.items c.push.new.self.items c.loop-question.question-index _ _ c.loop-question-test.true
      (get_or_default c.args.questions.now c.loop-question.question-index _ _ c.loop-question-test.true) refl c.in_ok-push.ensures.items c.loop-question.invariant.asked;
  goes = one_more g.P.Port.reads g.P.Port.writes g.P.Port.asks c.args.ticks c.args.port.now c.loop-question.all.items c.push.new.self.items c.loop-question.silent c.silent_after-silent.result c.loop-question.port c.ask_next.new.port _
      c.loop-question.invariant.goes c.in-Some.ensures.asked c.silent_after-silent.ensures c.in_ok-push.ensures.items;
}

pub returns-clause-asked : goal.returns-clause-asked
returns-clause-asked g c = record {
  each = all_added c.args.questions.now c.loop-question.all.items c.loop-question.question-index c.loop-question-test.false c.loop-question.invariant.asked;
  were = were_all g.P.Port.reads g.P.Port.writes g.P.Port.asks c.args.ticks c.args.port.now c.loop-question.all.items c.loop-question.silent c.loop-question.port c.loop-question.invariant.goes;
}

pub returns-in_default-clause-failed : goal.returns-in_default-clause-failed
returns-in_default-clause-failed g c =
    asking_fails g.P.Port.reads g.P.Port.writes g.P.Port.asks c.args.ticks c.args.port.now g.P.Port.fails c.args.questions.now c.loop-question.all.items c.loop-question.question-index _ c.loop-question.silent c.loop-question.port c.ask_next.new.port c.loop-question-test.true
    (get_or_default c.args.questions.now c.loop-question.question-index _ _ c.loop-question-test.true) c.loop-question.invariant.asked c.loop-question.invariant.goes c.in_default.ensures.failed

pub returns-in_err-push-clause-short : goal.returns-in_err-push-clause-short
returns-in_err-push-clause-short g c =
    on_err _ _
    (asked_some g.P.Port.reads g.P.Port.writes g.P.Port.asks c.args.ticks c.args.port.now c.args.questions.now c.loop-question.all.items c.loop-question.question-index _ c.loop-question.silent c.loop-question.port c.ask_next.new.port c.loop-question-test.true (get_or_default c.args.questions.now c.loop-question.question-index _ _ c.loop-question-test.true) c.loop-question.invariant.asked c.loop-question.invariant.goes c.in-Some.ensures.asked)
