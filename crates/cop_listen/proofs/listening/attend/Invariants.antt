use Rattle.cop_listen.proofs.HearingLemmas.{Listens}
use Rattle.cop_listen.proofs.listening.attend.Given as goal

abbrev pub invariant-loop-turn : goal.invariant-loop-turn
invariant-loop-turn g l = Listens g.P.Port.reads g.P.Port.writes g.P.Port.asks g.L.Listener.hears g.L.Listener.ends l.limit l.began l.fn.port l.fn.listener l._turn l.reader l.port l.listener
