use Rattle.std.proofs.Common.{◌≡◌, ◌++◌, drop}
use Rattle.cop_identity.proofs.AskingLemmas.{questions_in}
use Rattle.cop_survey.proofs.AskingLemmas.{Goes}
use Rattle.cop_survey.proofs.asking.ask_all.Given as goal

abbrev pub invariant-loop-question : goal.invariant-loop-question
invariant-loop-question g l = record {
  asked : questions_in l.all.items ++ drop l.question-index l.questions ≡ l.questions;
  goes : Goes g.P.Port.reads g.P.Port.writes g.P.Port.asks l.ticks l.fn.port l.all.items l.silent l.port;
}
