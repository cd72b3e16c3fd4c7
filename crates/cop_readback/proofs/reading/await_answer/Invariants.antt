use Rattle.std.proofs.Common.{◌≡◌}
use Rattle.cop_readback.proofs.ReadingLemmas.{Waits}
use Rattle.cop_readback.proofs.reading.await_answer.Given as goal

abbrev pub invariant-loop-turn : goal.invariant-loop-turn
invariant-loop-turn g l = record {
  same : l.boot.began ≡ l.fn.boot.began;
  waits : Waits g.P.Port.reads g.P.Port.writes g.P.Port.asks l.fn.question l.fn.boot.began (record { manager = l.fn.manager; pending = l.fn.boot.reader }) l.fn.boot.booted l.fn.port l._turn l.reader l.first
      (record { manager = l.manager; pending = l.boot.reader }) l.boot.booted l.port;
}
