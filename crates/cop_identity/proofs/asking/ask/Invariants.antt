use Rattle.cop_identity.proofs.AskingLemmas.{Waits}
use Rattle.cop_identity.proofs.asking.ask.Given as goal

abbrev pub invariant-loop-turn : goal.invariant-loop-turn
invariant-loop-turn g l = Waits g.P.Port.reads g.P.Port.writes g.P.Port.asks l.fn.question l.began l.fn.port l._turn l.reader l.port
