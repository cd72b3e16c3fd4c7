use Rattle.cop_plan.proofs.AssignLemmas.{IsEarlier}
use Rattle.cop_standing.specs.Answers.{AreAnswers}
use Rattle.cop_standing.proofs.standing.answers_at.Given as goal

abbrev pub invariant-loop-rate : goal.invariant-loop-rate
invariant-loop-rate l = AreAnswers l.set l.fn.pdos (IsEarlier l.rates l.rate-index) l.answers.items
