use Rattle.cop_heartbeats.proofs.AttendingLemmas.{Attends}
use Rattle.cop_heartbeats.proofs.attending.attend.Given as goal

abbrev pub invariant-loop-turn : goal.invariant-loop-turn
invariant-loop-turn g l = Attends g.P.Port.reads g.P.Port.writes g.P.Port.asks l.fn.awaited l.fn.limit l.began l.fn.port l._turn l.attendance l.port
