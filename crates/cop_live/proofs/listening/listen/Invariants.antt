use Rattle.cop_live.proofs.ListeningLemmas.{Hears}
use Rattle.cop_live.proofs.listening.listen.Given as goal

abbrev pub invariant-loop-turn : goal.invariant-loop-turn
invariant-loop-turn g l = Hears g.P.Port.reads g.P.Port.writes g.P.Port.asks l.fn.senders l.fn.only l.began l.fn.port l._turn l.hearing.reader l.hearing.tally l.port
