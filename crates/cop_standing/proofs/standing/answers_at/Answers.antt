use Rattle.std.proofs.Common.{arith}
use Rattle.std.proofs.lemmas.Bool.{both_ways}
use Rattle.cop_standing.proofs.RateAnswers.{one_more, passed_over, all_answered}
use Rattle.cop_standing.proofs.standing.answers_at.Goals as goal
use Rattle.cop_standing.proofs.standing.answers_at.Goals.{then-contains+in_ok-answer_at+in_ok-push, else-contains}

pub loop-rate-preserved : goal.loop-rate-preserved
loop-rate-preserved c = elim c.if-contains.branch [
  | then-contains+in_ok-answer_at+in_ok-push w ↦
      rw (w.answers-is, w.in_ok-push.ensures.items)
      (one_more c.args.set.now c.args.pdos c.args.rates.now c.loop-rate.rate-index c.loop-rate.answers.items w.in_ok-answer_at.field-0 c.loop-rate-test.true
      (c.contains.ensures.0 w.if-contains.true) w.in_ok-answer_at.ensures c.loop-rate.invariant)
  | else-contains w ↦
      rw w.answers-is
      (passed_over c.args.set.now c.args.pdos c.args.rates.now c.loop-rate.rate-index c.loop-rate.answers.items c.loop-rate-test.true
      (λ member. both_ways c.contains.result w.if-contains.false (c.contains.ensures.1 member)) c.loop-rate.invariant)
]

pub returns : goal.returns
returns c = all_answered c.args.set.now c.args.pdos c.args.rates.now c.loop-rate.rate-index c.loop-rate.answers.items (omega (arith, c.loop-rate-test.false)) c.loop-rate.invariant
