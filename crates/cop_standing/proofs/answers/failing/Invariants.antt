use Rattle.cop_standing.proofs.AnswerLemmas.{AreLateSoFar}
use Rattle.cop_standing.proofs.answers.failing.Given as goal

abbrev pub invariant-loop-k : goal.invariant-loop-k
invariant-loop-k l = AreLateSoFar l.streams l.fn.pdos l.verdicts l.k l.failing.items
