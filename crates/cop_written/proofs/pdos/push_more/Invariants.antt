use Rattle.std.proofs.Common.{◌≡◌, ◌++◌, drop}
use Rattle.cop_written.specs.Texts.{more_consumers}
use Rattle.cop_written.proofs.pdos.push_more.Given as goal

abbrev pub invariant-loop-consumer : goal.invariant-loop-consumer
invariant-loop-consumer l = l.text.items ++ more_consumers (drop l.consumer-index l.consumers) ≡ l.fn.text.items ++ more_consumers l.consumers
