use Rattle.cop_live.proofs.AwaitingLemmas.{Waits}
use Rattle.cop_live.proofs.awaiting.reset_and_await.Given as goal

abbrev pub invariant-loop-turn : goal.invariant-loop-turn
invariant-loop-turn g l = Waits g.P.Port.reads g.P.Port.writes g.P.Port.asks l.fn.only l.fn.nodes l.limit l.began l.fn.port l._turn l.reader l.booted l.port
