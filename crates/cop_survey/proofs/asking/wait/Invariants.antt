use Rattle.cop_survey.proofs.AskingLemmas.{Waits}
use Rattle.cop_survey.proofs.asking.wait.Given as goal

abbrev pub invariant-loop-turn : goal.invariant-loop-turn
invariant-loop-turn g l = Waits g.P.Port.reads g.P.Port.writes g.P.Port.asks l.ticks l.began l.fn.port l._turn l.port
