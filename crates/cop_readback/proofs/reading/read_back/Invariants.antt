use Rattle.std.proofs.Common.{◌≡◌, ◌++◌, drop}
use Rattle.cop_identity.proofs.AskingLemmas.{questions_in}
use Rattle.cop_readback.proofs.ReadingLemmas.{Asks}
use Rattle.cop_readback.proofs.reading.read_back.Given as goal

abbrev pub invariant-loop-question : goal.invariant-loop-question
invariant-loop-question g l = record {
  same : l.boot.began ≡ l.fn.boot.began;
  asked : questions_in l.all.items ++ drop l.question-index l.questions ≡ l.questions;
  goes : Asks g.P.Port.reads g.P.Port.writes g.P.Port.asks l.fn.boot.began (record { manager = l.fn.manager; pending = l.fn.boot.reader }) l.fn.boot.booted l.fn.port l.all.items
      (record { manager = l.manager; pending = l.boot.reader }) l.boot.booted l.port;
}
