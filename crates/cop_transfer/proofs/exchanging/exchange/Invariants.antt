use Rattle.cop_sdo.specs.Message.{message_of}
use Rattle.cop_transfer.proofs.ExchangeLemmas.{Waits}
use Rattle.cop_transfer.proofs.exchanging.exchange.Given as goal

abbrev pub invariant-loop-turn : goal.invariant-loop-turn
invariant-loop-turn g l = Waits g.P.Port.reads g.P.Port.writes g.P.Port.asks l.fn.node l.fn.limit (message_of l.fn.request) l.began l.fn.port l._turn l.reader l.port
