use Rattle.cop_live.proofs.Sessions.{Boots}
use Rattle.cop_live.proofs.session.boot_over.Given as goal

abbrev pub invariant-loop-turn : goal.invariant-loop-turn
invariant-loop-turn g l = Boots g.P.Port.reads g.P.Port.writes g.P.Port.asks l.fn.only l.fn.manager l.fn.port l._turn l.boot.began (record { manager = l.manager; pending = l.boot.reader }) l.port
